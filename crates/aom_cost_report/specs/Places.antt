-- Where a text declares what its image has, as compilers write it.
use Rattle.std.specs.Prelude.{ℕ, List, [], ◌++◌, Option, Some, None, codes, decimal, slice_get}
use Rattle.aom_budget.specs.declared.fault.BudgetOwner.{BudgetOwner}
use Rattle.aom_budget.specs.declared.fault.BudgetOwner.TheVariants.{Main, Class}

-- the name of a text's file, and lines of it: that of the image, and those of classes and of methods, that of number 0 first
pub record Places : Type 0 where
  pub file : List ℕ
  pub image : Option ℕ
  pub classes : List ℕ
  pub methods : List ℕ

-- the number of a line behind the name of its file
abbrev pub place_text : Option ℕ → List ℕ
place_text None = []
place_text (Some line) = codes ":" ++ decimal line

-- the file, and the line of it where there is one, before what is told of it
abbrev pub lead : Places → Option ℕ → List ℕ
lead places line = places.file ++ place_text line ++ codes ": "

-- the line that declares what a dispatch may cost: that of the image, or that of the class
abbrev pub budget_owner_line : Places → BudgetOwner → Option ℕ
budget_owner_line places Main = places.image
budget_owner_line places (Class k) = slice_get places.classes k

-- before what is told of the whole text, where there are places
abbrev pub file_lead : Option Places → List ℕ
file_lead None = []
file_lead (Some places) = lead places None

-- and before what is told of a method
abbrev pub method_lead : Option Places → ℕ → List ℕ
method_lead None m = []
method_lead (Some places) m = lead places (slice_get places.methods m)
