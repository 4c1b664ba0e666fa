-- Methods, with their figures, what they override and what leads from them to others.
use Rattle.std.specs.Prelude.{ℕ, List, [], ◌∷◌, ◌++◌, Option, Some, None, codes}
use Rattle.std.specs.Fmt.{decimal}
use Rattle.aom_image.specs.Image.{Image}
use Rattle.aom_image.specs.declared.method.Method.{Method}
use Rattle.aom_image.specs.declared.method.Role.{Role}
use Rattle.aom_image.specs.declared.method.Role.TheVariants as roles
use Rattle.aom_roles.specs.Tables.{at}
use Rattle.aom_budget.specs.Figures.{Figures}
use Rattle.aom_cost_report.specs.Each.{each, line_end, numbered}
use Rattle.aom_cost_report.specs.Names.{Names, label}
use Rattle.aom_cost_report.specs.Edges.{code_text}
use Rattle.aom_cost_report.specs.Over.{color_text, method_is_over}

-- what each role is called
abbrev pub role_word : Role → List ℕ
role_word = elim
    [ roles.Do ↦ codes " do" | roles.Main ↦ codes " main" | roles.Construct ↦ codes " construct" | roles.Destruct ↦ codes " destruct" | roles.Run ↦ codes " run" | roles.Cancel ↦ codes " cancel" | roles.Error ↦ codes " error" | roles.Accept ↦ codes " accept" | roles.Service ↦ codes " service" | roles.Undo ↦ codes " undo" ]

-- the class whose objects a method works on, where there is one
abbrev pub of_text : Names → Option ℕ → List ℕ
of_text names None = []
of_text names (Some k) = codes " " ++ label names.classes (codes "c") k

-- a new line in the label, with the figures of a method, and the end of the label
abbrev pub figures_label : Figures → ℕ → List ℕ
figures_label f m = 92 ∷ codes "nprice " ++ decimal (at 0 f.prices m) ++ codes " frames " ++ decimal (at 0 f.depths m) ++ codes " entries " ++ decimal (at 0 f.heights m) ++ codes "\""

-- a method, told by its name, with its role and its class
abbrev pub heading_text : Names → ℕ → Method → List ℕ
heading_text names m method = numbered (codes "m") m ++ codes " [label=\"" ++ label names.methods (codes "m") m ++ role_word method.role ++ of_text names method.class

-- its line, with its figures, red where it is over a limit
abbrev pub method_line : Names → Image → Figures → ℕ → Method → List ℕ
method_line names p f m method = heading_text names m method ++ figures_label f m ++ color_text (method_is_over p f m) ++ line_end

-- the method that it overrides, if there is one
abbrev pub over_line : ℕ → ℕ → List ℕ
over_line m over = numbered (codes "m") m ++ numbered (codes " -> m") over ++ (codes " [key=over arrowhead=empty" ++ line_end)

abbrev pub over_text : ℕ → Option ℕ → List ℕ
over_text m None = []
over_text m (Some over) = over_line m over

-- a method, the one that it overrides, and what its instructions lead to
abbrev pub method_text : Names → Image → Figures → ℕ → Method → List ℕ
method_text names p f m method = method_line names p f m method ++ over_text m method.over ++ code_text m method.code

abbrev pub methods_text : Names → Image → Figures → List Method → List ℕ
methods_text names p f methods = each (method_text names p f) 0 methods
