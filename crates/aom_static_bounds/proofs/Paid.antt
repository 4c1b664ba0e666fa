-- A table that pays for each line of destructors pays for the first of it; a call pays for what it names, and a cancel for each that may run.
use Rattle.std.proofs.lemmas.Bool.Decides.{nat_tests}
use Rattle.std.proofs.Common.{None, Option, Some, ap, arith, suc, true, zero, ℕ, ◌+◌, ◌≡◌, ◌≤◌}
use Rattle.aom_image.specs.Image.{Image}
use Rattle.aom_image.specs.declared.method.Role.TheVariants.{Cancel, Destruct}
use Rattle.aom_image.specs.declared.method.Thing.{Thing}
use Rattle.aom_image.specs.declared.method.Thing.TheVariants.{Object}
use Rattle.aom_roles.specs.Families.{descends}
use Rattle.aom_link_conditions.specs.Roles.{destructor_of, keeper_in, role_by, role_of}
use Rattle.aom_typing_rules.specs.Typing.{Typing}
use Rattle.aom_static_bounds.specs.Most.{line, line_in}
use Rattle.aom_static_bounds.specs.Prices.{IsPriced, Prices, call_price, cancel_price, perhaps_price, price, sessions_cost}
use Rattle.aom_static_bounds.proofs.Maxima.{below_has}

first_in : (p : Image) (c : Prices) (n : ℕ) (o : Option ℕ) → perhaps_price c (role_by p Destruct (keeper_in p n o Destruct)) ≤ line_in p (perhaps_price c) n o
unfolding keeper_in
first_in p c zero None = omega arith
first_in p c (suc n) None = omega arith
first_in p c zero (Some k) = grind (arith, nat_tests)
first_in p c (suc n) (Some k) = grind (arith, nat_tests, first_in p c n)

first_of_line : (p : Image) (c : Prices) (x : Thing) → perhaps_price c (destructor_of p x) ≤ line p (perhaps_price c) x
unfolding role_of
first_of_line p c x = grind (arith, nat_tests, first_in p c)

pub sessions_paid : (p : Image) (t : Typing) (c : Prices) → IsPriced p t c → (x : Thing) →
    1 + perhaps_price c (destructor_of p x) + sessions_cost p (λ k. c.destruction (Object k)) x ≤ c.destruction x
sessions_paid p t c priced x = omega (arith, priced.lines x, first_of_line p c x)

pub call_paid : (p : Image) (c : Prices) (m : ℕ) → price c m ≤ call_price p c m
call_paid p c m = omega arith

pub cancel_paid : (p : Image) (c : Prices) (x y k : ℕ) → descends p y x ≡ true → role_of p y Cancel ≡ Some k → price c k ≤ cancel_price p c (Some x)
cancel_paid p c x y k h is =
    let most = below_has p (λ z. perhaps_price c (role_of p z Cancel)) y x h in
    let same = ap (λ o. perhaps_price c o) is in
    omega (arith, most, same)
