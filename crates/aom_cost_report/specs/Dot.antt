-- A checked image as a graph in Graphviz's language.
use Rattle.std.specs.Prelude.{ℕ, List, [], ◌∷◌, ◌++◌, codes}
use Rattle.aom_image.specs.Image.{Image}
use Rattle.aom_link_conditions.specs.Roles.{main_of}
use Rattle.aom_budget.specs.Figures.{Figures}
use Rattle.aom_cost_report.specs.Classes.{classes_text}
use Rattle.aom_cost_report.specs.Methods.{methods_text}
use Rattle.aom_cost_report.specs.Names.{Names}
use Rattle.aom_cost_report.specs.Way.{way_of}

-- the classes, the methods, and the way from main to the greatest price
abbrev pub dot_text : Names → Image → Figures → List ℕ
dot_text names p f = codes "digraph aom {" ++ 10 ∷ (classes_text names p f.prices p.classes ++ methods_text names p f p.methods ++ way_of p f.prices (main_of p) ++ codes "}" ++ 10 ∷ [])
