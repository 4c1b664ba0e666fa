-- Why a checked image is not accepted.
use Rattle.std.specs.Prelude.{ℕ, List, ◌++◌, codes}
use Rattle.std.specs.Fmt.{decimal}
use Rattle.aom_image.specs.Image.{Image}
use Rattle.aom_static_bounds.specs.Depths.{DepthsWithin, IsTooDeep}
use Rattle.aom_static_bounds.specs.Heights.{IsTooHigh}
use Rattle.aom_budget.specs.Budgets.{BudgetsWithin, IsOver}
use Rattle.aom_budget.specs.declared.fault.BudgetFault.{BudgetFault}
use Rattle.aom_budget.specs.declared.fault.BudgetFault.TheVariants.{OverBudget, TooDeep, CleanupTooDeep, OutOfMemory}
use Rattle.aom_budget.specs.declared.fault.BudgetOwner.{BudgetOwner}
use Rattle.aom_budget.specs.declared.fault.BudgetOwner.TheVariants.{Main, Class}

unfoldable pub number_of : BudgetFault → ℕ
number_of (OverBudget budget_owner price declared) = 1
number_of TooDeep = 2
number_of CleanupTooDeep = 3
number_of OutOfMemory = 4

-- why an image is refused: the first reason. Want of memory is none
abbrev pub Refuses : Image → BudgetFault → Type 0
Refuses p (OverBudget budget_owner price declared) = IsOver p budget_owner price declared
Refuses p TooDeep = BudgetsWithin p × IsTooDeep p
Refuses p CleanupTooDeep = BudgetsWithin p × DepthsWithin p × IsTooHigh p
Refuses p OutOfMemory = ⊥

-- what a fault says of the image: why it is refused, or nothing, where memory was wanting
abbrev pub RefusesOrWants : Image → BudgetFault → Type 0
RefusesOrWants p OutOfMemory = Unit {0}
RefusesOrWants p (OverBudget budget_owner price declared) = Refuses p (OverBudget budget_owner price declared)
RefusesOrWants p TooDeep = Refuses p TooDeep
RefusesOrWants p CleanupTooDeep = Refuses p CleanupTooDeep

-- the line by which a fault is told
abbrev pub budget_owner_text : BudgetOwner → List ℕ
budget_owner_text Main = codes "main"
budget_owner_text (Class k) = codes "class " ++ decimal k

abbrev pub line_of : BudgetFault → List ℕ
line_of (OverBudget budget_owner price declared) = codes "budget 1 " ++ budget_owner_text budget_owner ++ codes " price " ++ decimal price ++ codes " declared " ++ decimal declared
line_of TooDeep = codes "budget 2"
line_of CleanupTooDeep = codes "budget 3"
line_of OutOfMemory = codes "budget 4"
