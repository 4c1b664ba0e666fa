-- One method after the other.
use Rattle.std.proofs.Common.{List, Some, ap, arith, length, subst, sym, ◌∙◌, ◌≡◌}
use Rattle.aom_image.specs.Views.{method_at}
use Rattle.aom_linker.proofs.LinkConditionsLemmas.{each_push}
use Rattle.aom_link_conditions.specs.Overriding.{body_of}
use Rattle.aom_linker.proofs.Standing.{row_more, some_there}
use Rattle.aom_linker.proofs.row.BodyRow.of_class.Goals as goal

pub above-above-requires-clause-method : goal.above-above-requires-clause-method
unfolding method_at
above-above-requires-clause-method c =
    let count = c.len-count.ensures ∙ ap (λ (l : List _). length l) c.methods.ensures.value in
    some_there c.args.image.now.methods _ (let lt = c.loop-method-test.true in let same = c.method_number.ensures in omega (arith, lt, count, same))

pub loop-method-preserved : goal.loop-method-preserved
loop-method-preserved c =
    let p = c.args.image.now in
    let i = c.loop-method.method in
    let count = c.len-count.ensures ∙ ap (λ (l : List _). length l) c.methods.ensures.value in
    let few = c.methods.ensures.well_formed.methods.count in
    let lt = c.loop-method-test.true in
    let here = row_more p c.args.class i _ _ _ _ _ c.overriders_of_class-own.ensures c.deref.ensures.0 c.method_number.ensures c.above-above.ensures
    (omega (arith, lt, count)) few c.body_or.ensures in
    let size = c.loop-method.invariant.size in
    let each = each_push (λ k b. b ≡ body_of p k (Some c.args.class)) c.loop-method.bodies.items c.body_or.result c.loop-method.invariant.each
    (subst (λ k. c.body_or.result ≡ body_of p k (Some c.args.class)) (sym size) here) in
    record { size = (let s = c.in_ok-push.ensures.len in omega (arith, s, size)); each = λ k. rw c.in_ok-push.ensures.items (each k) }
