-- What main's dispatch costs at most, and when an image can afford it.
use Rattle.std.specs.Prelude.{ℕ, ◌+◌, ◌≤◌, Option, Some, None}
use Rattle.aom_image.specs.Image.{Image}
use Rattle.aom_image.specs.declared.method.Thing.TheVariants.{Object}
use Rattle.aom_link_conditions.specs.Roles.{main_of}
use Rattle.aom_typing_rules.specs.Typing.{Typing}
use Rattle.aom_static_bounds.specs.Prices.{Prices, IsPriced, price}

-- the destruction of the root
abbrev pub root_price : Prices → Option ℕ → ℕ
root_price c None = 0
root_price c (Some x) = c.destruction (Object x)

-- what a method costs as main, whose end may begin the root's destruction
abbrev pub method_price : Image → Prices → Option ℕ → ℕ
method_price p c None = 0
method_price p c (Some m) = price c m + root_price c p.header.root

abbrev pub main_price : Image → Prices → ℕ
main_price p c = method_price p c (main_of p)

-- a table pays for the whole of main's dispatch, and main's price is within its declaration
pub record IsAffordable (p : Image) (t : Typing) (c : Prices) : Type 0 where
  pub priced : IsPriced p t c
  pub declared : main_price p c ≤ p.header.budget
