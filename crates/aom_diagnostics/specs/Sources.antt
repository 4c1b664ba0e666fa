-- Where a fault is in the text that an image is of: the statements that declare what is refused.
use Rattle.std.specs.Prelude.{ℕ, List, [], ◌∷◌, ◌++◌, Option, Some, None, codes, decimal, map}
use Rattle.std.specs.List.{concat}
use Rattle.aom_budget.specs.declared.fault.BudgetFault.{BudgetFault}
use Rattle.aom_budget.specs.declared.fault.BudgetFault.TheVariants.{OverBudget, TooDeep, CleanupTooDeep, OutOfMemory}
use Rattle.aom_budget.specs.declared.fault.BudgetOwner.{BudgetOwner}
use Rattle.aom_budget.specs.declared.fault.BudgetOwner.TheVariants.{Main, Class}
use Rattle.aom_diagnostics.specs.Declarations.{class_statement, image_statement, instruction_statement, method_statement}
use Rattle.aom_text.specs.declared.text.Statement.{Statement}

-- words, each behind a space
abbrev pub spaced : List (List ℕ) → List ℕ
spaced words = concat (map (λ w. 32 ∷ w) words)

-- the number of a statement's line, and its words
abbrev pub statement_text : List ℕ → Statement → List ℕ
statement_text lead s = lead ++ decimal s.line ++ codes ":" ++ spaced s.words ++ 10 ∷ []

-- the same where there is one
abbrev pub found_text : List ℕ → Option Statement → List ℕ
found_text lead None = []
found_text lead (Some s) = statement_text lead s

-- the statement that declares a method, and the one that holds the instruction at a place of it
abbrev pub source_text : List ℕ → ℕ → ℕ → List ℕ
source_text text number place =
    found_text (codes "In line ") (method_statement text number) ++ found_text (codes "At line ") (instruction_statement text number place)

-- the statement that declares a budget: main's stands in that of the image, and an object's in that of its class
abbrev pub budget_statement : List ℕ → BudgetOwner → Option Statement
budget_statement text Main = image_statement text
budget_statement text (Class number) = class_statement text number

-- where the budget is declared that is too low
abbrev pub declared_text : List ℕ → BudgetFault → List ℕ
declared_text text (OverBudget budget_owner price declared) = found_text (codes "Declared in line ") (budget_statement text budget_owner)
declared_text text TooDeep = []
declared_text text CleanupTooDeep = []
declared_text text OutOfMemory = []
