-- The text of an image's figures, which tells classes and methods by their names where there are some, and each line's place in a text where that is known.
use Rattle.std.specs.Prelude.{ℕ, zero, suc, max, List, [], ◌∷◌, ◌++◌, Option, Some, None, codes, length}
use Rattle.std.specs.Fmt.{decimal}
use Rattle.aom_image.specs.Image.{Image}
use Rattle.aom_roles.specs.Tables.{at}
use Rattle.aom_budget.specs.Budgets.{declared_by}
use Rattle.aom_budget.specs.Figures.{Figures, budget_owner_by}
use Rattle.aom_budget.specs.declared.fault.BudgetOwner.{BudgetOwner}
use Rattle.aom_budget.specs.declared.fault.BudgetOwner.TheVariants.{Main, Class}
use Rattle.aom_cost_report.specs.Names.{Names, label}
use Rattle.aom_cost_report.specs.Places.{Places, file_lead, lead, method_lead, budget_owner_line}

-- what is written for each number below that one, in their order
abbrev pub by_number : (ℕ → List ℕ) → ℕ → List ℕ
by_number text zero = []
by_number text (suc n) = by_number text n ++ text n

-- ---- what is declared

-- whose dispatch it is: main's, or that of an object of a class
abbrev pub budget_owner_word : Names → BudgetOwner → List ℕ
budget_owner_word names Main = codes "main"
budget_owner_word names (Class k) = codes "class " ++ label names.classes [] k

-- what a dispatch costs, and what is declared of it: with the line that declares it, or without
abbrev pub dispatch_at : Option Places → Names → BudgetOwner → ℕ → ℕ → List ℕ
dispatch_at None names budget_owner price declared = budget_owner_word names budget_owner ++ codes " price " ++ decimal price ++ codes " declared " ++ decimal declared ++ 10 ∷ []
dispatch_at (Some places) names budget_owner price declared =
    lead places (budget_owner_line places budget_owner) ++ codes "price " ++ decimal price ++ codes " of " ++ budget_owner_word names budget_owner ++ codes "'s "
    ++ decimal declared ++ 10 ∷ []

abbrev pub dispatch_line : Names → BudgetOwner → ℕ → ℕ → List ℕ
dispatch_line names budget_owner price declared = dispatch_at names.places names budget_owner price declared

-- nothing, where nothing is declared
abbrev pub declared_text : Names → BudgetOwner → ℕ → Option ℕ → List ℕ
declared_text names budget_owner price None = []
declared_text names budget_owner price (Some declared) = dispatch_line names budget_owner price declared

abbrev pub budget_owner_lines : Names → Image → List ℕ → BudgetOwner → List ℕ
budget_owner_lines names p prices budget_owner = declared_text names budget_owner (budget_owner_by p prices budget_owner) (declared_by p budget_owner)

abbrev pub classes_text : Names → Image → List ℕ → List ℕ
classes_text names p prices = by_number (λ k. budget_owner_lines names p prices (Class k)) (length p.classes)

-- ---- what the methods come to

-- the greatest number of those of the methods below that one
abbrev pub most_below : List ℕ → ℕ → ℕ
most_below table zero = 0
most_below table (suc n) = max (most_below table n) (at 0 table n)

abbrev pub frames_line : Names → ℕ → List ℕ
frames_line names most = file_lead names.places ++ codes "frames " ++ decimal most ++ codes " of 256" ++ 10 ∷ []

abbrev pub entries_line : Names → ℕ → List ℕ
entries_line names most = file_lead names.places ++ codes "entries " ++ decimal most ++ codes " of 1024" ++ 10 ∷ []

abbrev pub limits_text : Names → Image → Figures → List ℕ
limits_text names p f = frames_line names (most_below f.depths (length p.methods)) ++ entries_line names (most_below f.heights (length p.methods))

abbrev pub method_line : Names → Figures → ℕ → List ℕ
method_line names f m =
    method_lead names.places m ++ codes "method " ++ label names.methods [] m ++ codes " price " ++ decimal (at 0 f.prices m) ++ codes " frames " ++ decimal (at 0 f.depths m)
    ++ codes " entries " ++ decimal (at 0 f.heights m) ++ 10 ∷ []

abbrev pub methods_text : Names → Image → Figures → List ℕ
methods_text names p f = by_number (method_line names f) (length p.methods)

-- ---- the whole

-- main's dispatch, the classes' dispatches, what all methods keep within, and each method
abbrev pub figures_text : Names → Image → Figures → List ℕ
figures_text names p f = budget_owner_lines names p f.prices Main ++ classes_text names p f.prices ++ limits_text names p f ++ methods_text names p f
