-- A class that has no object has no line.
use Rattle.std.proofs.Common.{◌≡◌, ◌∙◌, ◌≢◌, ℕ, zero, suc, Some, ap, refl, sym}
use Rattle.aom_debug_protocol.specs.declared.answer.Answer.TheVariants.{OfClass}
use Rattle.aom_debug_views.specs.CellViews.{class_answer}
use Rattle.aom_debug_views.proofs.cells.class_answer.Goals as goal

some_of : (class n : ℕ) → n ≢ 0 → Some (OfClass class n) ≡ class_answer class n
some_of class zero some = absurd (some refl)
some_of class (suc n) some = refl

pub returns-then-count-eq0 : goal.returns-then-count-eq0
returns-then-count-eq0 c = λ p s st. ap (class_answer c.args.class) (sym c.if-count-eq0.true ∙ c.count_class-count.ensures p s st)

pub returns : goal.returns
returns c = λ p s st. some_of c.args.class c.count_class-count.result c.if-count-eq0.false ∙ ap (class_answer c.args.class) (c.count_class-count.ensures p s st)
