-- The method is the one of that number, if there is one.
use Rattle.std.proofs.Common.{◌≡◌, ◌∙◌, Some, None, ap, refl, slice_get, sym}
use Rattle.std.proofs.lemmas.Bool.{ltb-false, ltb-true}
use Rattle.std.proofs.lemmas.Option.{slice_get_past, slice_get_read}
use Rattle.aom_image.specs.Views.{method_at}
use Rattle.aom_cost_report.specs.Way.{costliest, costliest_in}
use Rattle.aom_cost_report.proofs.way.costliest_of.Goals as goal

pub returns-in-Some : goal.returns-in-Some
unfolding method_at
returns-in-Some c =
    let found = rw (c.as_slice.ensures, c.methods-methods.ensures.value, c.image.ensures, c.number.ensures.value) at c.in-Some.ensures.lookup in
    let there : slice_get c.args.linked.now.methods c.args.method ≡ Some c.in-Some.method.now = slice_get_read _ _ _ _ refl (ltb-true _ _ (sym found.0)) found.1 in
    c.costliest.ensures ∙ ap (costliest c.args.figures.now.prices None) c.as_slice-in-Some.ensures ∙ ap (costliest_in c.args.figures.now.prices) (sym there)

pub returns-in-None : goal.returns-in-None
unfolding method_at
returns-in-None c =
    let found = rw (c.as_slice.ensures, c.methods-methods.ensures.value, c.image.ensures, c.number.ensures.value) at c.in-None.ensures.lookup in
    let past : slice_get c.args.linked.now.methods c.args.method ≡ None = slice_get_past _ _ (ltb-false _ _ (sym found.0)) in
    ap (costliest_in c.args.figures.now.prices) (sym past)
