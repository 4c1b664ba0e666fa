-- The figures of a checked image, by the numbers of its methods, as contracts see them.
use Rattle.std.specs.Prelude.{ℕ, ◌+◌, ◌≡◌, ◌≤◌, ◌<◌, max, List, length, Option, Some, None}
use Rattle.aom_image.specs.Image.{Image}
use Rattle.aom_image.specs.Views.{class_at}
use Rattle.aom_image.specs.declared.class.ClassDecl.{ClassDecl}
use Rattle.aom_image.specs.declared.class.ClassKind.{ClassKind}
use Rattle.aom_image.specs.declared.class.ClassKind.TheVariants.{Plain, Active, Server, Session}
use Rattle.aom_image.specs.declared.method.Role.{Role}
use Rattle.aom_image.specs.declared.method.Role.TheVariants.{Run, Error, Accept, Service}
use Rattle.aom_image.specs.declared.method.Thing.TheVariants.{Object}
use Rattle.aom_link_conditions.specs.Roles.{main_of, role_of}
use Rattle.aom_budget.specs.Budgets.{declared_by}
use Rattle.aom_budget.specs.StackDepths.{AreFilled}
use Rattle.aom_budget.specs.Pricing.{ArePriced, destruction_by, kept, price_by}
use Rattle.aom_budget.specs.declared.fault.BudgetFault.{BudgetFault}
use Rattle.aom_budget.specs.declared.fault.BudgetFault.TheVariants.{OverBudget}
use Rattle.aom_budget.specs.declared.fault.BudgetOwner.{BudgetOwner}
use Rattle.aom_budget.specs.declared.fault.BudgetOwner.TheVariants.{Main, Class}

pub record Figures : Type 0 where
  -- frames, up to 257
  pub depths : List ℕ
  -- cleanup entries, up to 1,025
  pub heights : List ℕ
  -- steps, up to 2^32
  pub prices : List ℕ

pub record AreFigures (p : Image) (f : Figures) : Type 0 where
  pub filled : AreFilled p (length p.methods) f.depths f.heights
  pub priced : ArePriced p f.prices

-- ---- what main's dispatch costs

abbrev pub root_by : Image → List ℕ → Option ℕ → ℕ
root_by p prices None = 0
root_by p prices (Some x) = destruction_by p prices (Object x)

abbrev pub main_by : Image → List ℕ → ℕ
main_by p prices = kept (price_by prices (main_of p) + root_by p prices p.header.root)

-- ---- what a dispatch of an object costs

-- nothing where the class has no such method
abbrev pub role_by : Image → List ℕ → ℕ → Role → ℕ
role_by p prices k role = price_by prices (role_of p k role)

-- by the kind of its class
abbrev pub kind_by : Image → List ℕ → ℕ → ClassKind → ℕ
kind_by p prices k Plain = 0
kind_by p prices k (Active provider) = kept (role_by p prices k Run + role_by p prices k Error)
kind_by p prices k (Server sessions session) = max (role_by p prices k Accept) (max (role_by p prices session Service) (destruction_by p prices (Object session)))
kind_by p prices k Session = 0

abbrev pub class_by : Image → List ℕ → ℕ → Option ClassDecl → ℕ
class_by p prices k None = 0
class_by p prices k (Some class) = kind_by p prices k class.kind

abbrev pub budget_owner_by : Image → List ℕ → BudgetOwner → ℕ
budget_owner_by p prices Main = main_by p prices
budget_owner_by p prices (Class k) = class_by p prices k (class_at p k)

-- ---- whether that is within what is declared

abbrev pub IsWithin : Image → List ℕ → BudgetOwner → Type 0
IsWithin p prices budget_owner = (most : ℕ) → declared_by p budget_owner ≡ Some most → budget_owner_by p prices budget_owner ≤ most

-- it is more, and the fault tells so
pub record ReportsOver (p : Image) (prices : List ℕ) (budget_owner : BudgetOwner) (fault : BudgetFault) : Type 0 where
  pub most : ℕ
  pub declares : declared_by p budget_owner ≡ Some most
  pub over : most < budget_owner_by p prices budget_owner
  pub is : fault ≡ OverBudget budget_owner (budget_owner_by p prices budget_owner) most

-- so many classes, by number, are within
abbrev pub ClassesWithin : Image → List ℕ → ℕ → Type 0
ClassesWithin p prices count = (k : ℕ) → k < count → IsWithin p prices (Class k)

-- the fault tells of the first class that is not
pub record ReportsFirst (p : Image) (prices : List ℕ) (fault : BudgetFault) : Type 0 where
  pub class : ℕ
  pub reports : ReportsOver p prices (Class class) fault
  pub earlier : ClassesWithin p prices class
