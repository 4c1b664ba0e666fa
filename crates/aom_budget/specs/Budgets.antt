-- What each dispatch costs at most, and what the image declares of it.
use Rattle.std.specs.Prelude.{ℕ, ◌+◌, ◌≡◌, ◌≤◌, ◌<◌, max, min, Option, Some, None, if◌then◌else◌}
use Rattle.aom_image.specs.Image.{Image}
use Rattle.aom_image.specs.Views.{class_at}
use Rattle.aom_image.specs.WellFormed.{is_dispatched}
use Rattle.aom_image.specs.declared.class.ClassDecl.{ClassDecl}
use Rattle.aom_image.specs.declared.class.ClassKind.{ClassKind}
use Rattle.aom_image.specs.declared.class.ClassKind.TheVariants.{Plain, Active, Server, Session}
use Rattle.aom_image.specs.declared.method.Role.{Role}
use Rattle.aom_image.specs.declared.method.Role.TheVariants.{Run, Error, Accept, Service}
use Rattle.aom_image.specs.declared.method.Thing.TheVariants.{Object}
use Rattle.aom_link_conditions.specs.Roles.{role_of}
use Rattle.aom_typing_rules.specs.Typing.{Typing}
use Rattle.aom_static_bounds.specs.Strongest.{IsStrongest}
use Rattle.aom_static_bounds.specs.Costs.{ArePrices, destructor_price}
use Rattle.aom_static_bounds.specs.Dispatches.{main_price}
use Rattle.aom_static_bounds.specs.Prices.{Prices}
use Rattle.aom_budget.specs.declared.fault.BudgetOwner.{BudgetOwner}
use Rattle.aom_budget.specs.declared.fault.BudgetOwner.TheVariants.{Main, Class}

-- ---- what is declared

-- of each dispatch of an object of a class, if its objects are dispatched
abbrev pub budget_of : ClassDecl → Option ℕ
budget_of class = if is_dispatched class.kind then Some class.budget else None

abbrev pub class_declares : Option ClassDecl → Option ℕ
class_declares None = None
class_declares (Some class) = budget_of class

-- of main, or of each dispatch of an object of that class, if it is one that is dispatched
abbrev pub declared_by : Image → BudgetOwner → Option ℕ
declared_by p Main = Some p.header.budget
declared_by p (Class k) = class_declares (class_at p k)

-- ---- what it costs

-- nothing where the class has no such method
abbrev pub role_price : Image → Prices → ℕ → Role → ℕ
role_price p c k role = destructor_price c (role_of p k role)

-- an active object runs, and its error method follows where the run left; a server accepts, serves, or ends a session
abbrev pub kind_price : Image → Prices → ℕ → ClassKind → ℕ
kind_price p c k Plain = 0
kind_price p c k (Active provider) = role_price p c k Run + role_price p c k Error
kind_price p c k (Server sessions session) = max (role_price p c k Accept) (max (role_price p c session Service) (c.destruction (Object session)))
kind_price p c k Session = 0

abbrev pub class_price : Image → Prices → ℕ → Option ClassDecl → ℕ
class_price p c k None = 0
class_price p c k (Some class) = kind_price p c k class.kind

abbrev pub budget_owner_price : Image → Prices → BudgetOwner → ℕ
budget_owner_price p c Main = main_price p c
budget_owner_price p c (Class k) = class_price p c k (class_at p k)

-- ---- whether that is enough

-- by a table of prices each dispatch costs at most what is declared of it
abbrev pub CostsWithin : Image → Prices → Type 0
CostsWithin p c = (budget_owner : BudgetOwner) (most : ℕ) → declared_by p budget_owner ≡ Some most → budget_owner_price p c budget_owner ≤ most

-- the prices of the strongest typing are such a table
pub record BudgetsWithin (p : Image) : Type 0 where
  pub typing : Typing
  pub strongest : IsStrongest p typing
  pub prices : Prices
  pub are : ArePrices p typing prices
  pub within : CostsWithin p prices

-- main comes first, then the classes by number
abbrev pub IsBefore : BudgetOwner → BudgetOwner → Type 0
IsBefore Main Main = ⊥
IsBefore Main (Class k) = Unit {0}
IsBefore (Class j) Main = ⊥
IsBefore (Class j) (Class k) = j < k

-- the first whose dispatch may cost more than is declared of it, with its price, or 2^32 where that is more
pub record IsOver (p : Image) (budget_owner : BudgetOwner) (price most : ℕ) : Type 0 where
  pub typing : Typing
  pub strongest : IsStrongest p typing
  pub prices : Prices
  pub are : ArePrices p typing prices
  pub declares : declared_by p budget_owner ≡ Some most
  pub is : price ≡ min 4294967296 (budget_owner_price p prices budget_owner)
  pub over : most < budget_owner_price p prices budget_owner
  pub first : (before : BudgetOwner) (enough : ℕ) → IsBefore before budget_owner → declared_by p before ≡ Some enough → budget_owner_price p prices before ≤ enough
