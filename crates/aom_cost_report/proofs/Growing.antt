-- The line of a class is that of the element at its index.
use Rattle.std.proofs.Common.{◌≡◌, ◌∙◌, ℕ, ◌+◌, ◌<◌, List, ◌++◌, Some, length, slice_index_or, add-one, append_assoc, ap, sym, refl}
use Rattle.std.proofs.lemmas.Option.{slice_get_read}
use Rattle.aom_image.specs.Image.{Image}
use Rattle.aom_image.specs.Views.{class_at}
use Rattle.aom_image.specs.declared.class.ClassDecl.{ClassDecl}
use Rattle.aom_budget.specs.Budgets.{budget_of, class_declares}
use Rattle.aom_budget.specs.declared.fault.BudgetOwner.TheVariants.{Class}
use Rattle.aom_budget.specs.Figures.{class_by, kind_by}
use Rattle.aom_cost_report.specs.Names.{Names}
use Rattle.aom_cost_report.specs.Text.{by_number, declared_text, budget_owner_lines}

class_here : (p : Image) (k : ℕ) (class : ClassDecl) → k < length p.classes → class ≡ slice_index_or p.classes k class → class_at p k ≡ Some class
unfolding class_at
class_here p k class within is = slice_get_read p.classes (length p.classes) k class refl within is

line_here : (names : Names) (p : Image) (prices : List ℕ) (k : ℕ) (class : ClassDecl) → k < length p.classes → class ≡ slice_index_or p.classes k class
    → declared_text names (Class k) (kind_by p prices k class.kind) (budget_of class) ≡ budget_owner_lines names p prices (Class k)
line_here names p prices k class within is =
    sym (ap (λ o. declared_text names (Class k) (class_by p prices k o) (class_declares o)) (class_here p k class within is))

-- the lines so far, with that of one more class
pub class_more : (names : Names) (p : Image) (prices : List ℕ) (k i : ℕ) (class : ClassDecl) (front text new : List ℕ) → k ≡ i → k < length p.classes →
    class ≡ slice_index_or p.classes k class → text ≡ front ++ by_number (λ j. budget_owner_lines names p prices (Class j)) k → new ≡ text ++ declared_text names
    (Class i) (kind_by p prices i class.kind) (budget_of class) → new ≡ front ++ by_number (λ j. budget_owner_lines names p prices (Class j)) (k + 1)
class_more names p prices k i class front text new same within is so_far written = written ∙ ap (λ j. text ++ declared_text names
    (Class j) (kind_by p prices j class.kind) (budget_of class)) (sym same) ∙ ap (λ t. text ++ t) (line_here names p prices k class within is)
    ∙ ap (λ t. t ++ budget_owner_lines names p prices (Class k)) so_far ∙ append_assoc front (by_number (λ j. budget_owner_lines names p prices (Class j)) k)
    (budget_owner_lines names p prices (Class k)) ∙ ap (λ n. front ++ by_number (λ j. budget_owner_lines names p prices (Class j)) n) (sym (add-one k))
