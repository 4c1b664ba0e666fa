-- What costs more than is declared of it, or is over a limit.
use Rattle.std.specs.Prelude.{ℕ, ◌==◌, Bool, true, false, ◌&&◌, ◌||◌, nat_lt, List, [], Option, Some, None, codes}
use Rattle.aom_image.specs.Image.{Image}
use Rattle.aom_image.specs.declared.class.ClassDecl.{ClassDecl}
use Rattle.aom_link_conditions.specs.Roles.{main_of}
use Rattle.aom_roles.specs.Tables.{at}
use Rattle.aom_budget.specs.Budgets.{budget_of}
use Rattle.aom_budget.specs.Figures.{Figures, kind_by, main_by}

-- a price is more than what is declared, where something is
abbrev pub is_over : ℕ → Option ℕ → Bool
is_over price None = false
is_over price (Some declared) = nat_lt declared price

abbrev pub class_is_over : Image → List ℕ → ℕ → ClassDecl → Bool
class_is_over p prices k class = is_over (kind_by p prices k class.kind) (budget_of class)

abbrev pub is_method : Option ℕ → ℕ → Bool
is_method None m = false
is_method (Some k) m = k == m

-- it is main, whose dispatch may cost more than is declared of it
abbrev pub main_is_over : Image → List ℕ → ℕ → Bool
main_is_over p prices m = is_method (main_of p) m && is_over (main_by p prices) (Some p.header.budget)

-- over 256 frames, over 1,024 cleanup entries, or main that is over its budget
abbrev pub method_is_over : Image → Figures → ℕ → Bool
method_is_over p f m = nat_lt 256 (at 0 f.depths m) || nat_lt 1024 (at 0 f.heights m) || main_is_over p f.prices m

-- how what is over is drawn
unfoldable pub color_text : Bool → List ℕ
color_text true = codes " color=red"
color_text false = []
