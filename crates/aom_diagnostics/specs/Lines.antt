-- Lines of a text, and a fault in one line with its place, as compilers write it.
use Rattle.std.specs.Prelude.{ℕ, List, [], ◌∷◌, ◌++◌, Option, None, codes, map, option_map}
use Rattle.std.specs.List.{filter}
use Rattle.aom_budget.specs.declared.fault.BudgetFault.{BudgetFault}
use Rattle.aom_budget.specs.declared.fault.BudgetFault.TheVariants.{OverBudget, TooDeep, CleanupTooDeep, OutOfMemory}
use Rattle.aom_link_conditions.specs.Roles.{or_else}
use Rattle.aom_diagnostics.specs.Declarations.{begins, image_statement, instruction_statement, method_statement}
use Rattle.aom_diagnostics.specs.Sources.{budget_statement}
use Rattle.aom_cost_report.specs.Places.{place_text}
use Rattle.aom_syntax.specs.declared.keyword.Keyword.{Keyword}
use Rattle.aom_syntax.specs.declared.keyword.Keyword.TheVariants as k
use Rattle.aom_text.specs.Text.{statements}
use Rattle.aom_text.specs.declared.text.Statement.{Statement}

-- the number of a statement's line, where there is one
abbrev pub line_of : Option Statement → Option ℕ
line_of found = option_map (λ s. s.line) found

-- of a place of a method, the line of the instruction there; behind the last one there is none, and it is the method's
abbrev pub refusal_line : List ℕ → ℕ → ℕ → Option ℕ
refusal_line text number place = or_else (line_of (instruction_statement text number place)) (line_of (method_statement text number))

-- where the budget is declared that is too low
abbrev pub budget_line : List ℕ → BudgetFault → Option ℕ
budget_line text (OverBudget budget_owner price declared) = line_of (budget_statement text budget_owner)
budget_line text TooDeep = None
budget_line text CleanupTooDeep = None
budget_line text OutOfMemory = None

-- the line that declares the image
abbrev pub image_line : List ℕ → Option ℕ
image_line text = line_of (image_statement text)

-- the lines of those of the statements that begin with that keyword, in their order
abbrev pub lines_in : Keyword → List Statement → List ℕ
lines_in key ss = map (λ s. s.line) (filter (begins key) ss)

-- the lines that declare a text's classes, that of class 0 first
abbrev pub class_lines : List ℕ → List ℕ
class_lines text = lines_in k.Class (statements text)

-- the lines that declare a text's methods, that of method 0 first
abbrev pub method_lines : List ℕ → List ℕ
method_lines text = lines_in k.Method (statements text)

-- the file, the line, how a fault is told and what it is called
abbrev pub as_line_text : (file : List ℕ) → Option ℕ → (reported name : List ℕ) → List ℕ
as_line_text file line reported name = file ++ place_text line ++ codes ": " ++ reported ++ codes ": " ++ name ++ 10 ∷ []
