-- Each class is compared, and the first that is over is told.
use Rattle.std.proofs.Common.{◌≡◌, ◌∙◌, List, Some, length, ap, arith, sym}
use Rattle.std.proofs.lemmas.Result.{err_from_is_err_and}
use Rattle.aom_image.specs.Image.{Image}
use Rattle.aom_image.specs.Views.{class_at}
use Rattle.aom_image.specs.declared.class.ClassDecl.{ClassDecl}
use Rattle.aom_budget.specs.Figures.{ClassesWithin, IsWithin}
use Rattle.aom_budget.specs.declared.fault.BudgetOwner.TheVariants.{Class}
use Rattle.aom_budget.proofs.Budgeting.{class_there, classes_more, reports_first, within_none, within_some}
use Rattle.aom_budget.proofs.figures.Figures.keep_classes.Goals.{in-Some+in_ok-within, in_default}
use Rattle.aom_budget.proofs.figures.Figures.keep_classes.Goals as goal

pub class-requires : goal.class-requires
class-requires c =
    let shown : c.classes-classes.result.now ≡ c.args.linked.now.classes = c.classes-classes.ensures.value ∙ ap (λ (p : Image). p.classes) c.image.ensures in
    let count : c.len-index-end.result ≡ length c.args.linked.now.classes = c.len-index-end.ensures ∙ ap (λ (xs : List ClassDecl). length xs) shown in
    rw c.class_number-class.ensures (class_there c.args.linked.now _ (omega (arith, c.loop-index-test.true, count)))

pub returns-in_err-within-clause-err : goal.returns-in_err-within-clause-err
returns-in_err-within-clause-err c =
    let error = err_from_is_err_and c.from_residual.result c.from_residual.ensures.1 in
    let earlier : ClassesWithin c.args.linked.now c.args.self.now.prices c.class_number-class.result = rw c.class_number-class.ensures c.loop-index.invariant in
    let reported = c.in_err-within.ensures.err in
    rw (error.1, error.2) (reports_first _ _ _ _ c.class.ensures _ _ _ earlier (sym c.budget_of.ensures ∙ c.in-Some.is) c.class_price-price.ensures reported.0 reported.1)

pub loop-index-preserved : goal.loop-index-preserved
loop-index-preserved c =
    let is : class_at c.args.linked.now c.loop-index.index ≡ Some c.class.result.now = rw c.class_number-class.ensures at c.class.ensures in
    let here : IsWithin c.args.linked.now c.args.self.now.prices (Class c.loop-index.index) = elim c.match-budget_of.branch [
      | in-Some+in_ok-within w ↦ within_some _ _ _ _ is w.in-Some.declared w.class_price-price.result
          (sym c.budget_of.ensures ∙ w.in-Some.is) (rw c.class_number-class.ensures at w.class_price-price.ensures) w.in_ok-within.ensures.ok
      | in_default w ↦ within_none _ _ _ _ is (sym c.budget_of.ensures ∙ w.in_default.is)
    ] in
    classes_more _ _ _ c.loop-index.invariant here
