-- What is compared where an image may come to too much.
use Rattle.std.specs.Prelude.{ℕ, List, [], ◌∷◌, ◌++◌, codes, decimal}
use Rattle.aom_budget.specs.Faults.{budget_owner_text}
use Rattle.aom_budget.specs.declared.fault.BudgetFault.{BudgetFault}
use Rattle.aom_budget.specs.declared.fault.BudgetFault.TheVariants.{OverBudget, TooDeep, CleanupTooDeep, OutOfMemory}
use Rattle.aom_budget.specs.declared.fault.BudgetOwner.{BudgetOwner}

-- what a dispatch may take, and what is declared of it
abbrev pub over_text : BudgetOwner → ℕ → ℕ → List ℕ
over_text budget_owner price declared =
    codes "Compared: " ++ budget_owner_text budget_owner ++ codes " may take " ++ decimal price ++ codes " steps, and declared are " ++ decimal declared ++ 10 ∷ []

abbrev pub compared_text : BudgetFault → List ℕ
compared_text (OverBudget budget_owner price declared) = over_text budget_owner price declared
compared_text TooDeep = codes "Compared: the frames of each method, with 256" ++ 10 ∷ []
compared_text CleanupTooDeep = codes "Compared: the cleanup entries of each method, with 1024" ++ 10 ∷ []
compared_text OutOfMemory = []
