-- The methods are answered one after the other.
use Rattle.std.proofs.Common.{◌≡◌, ◌∙◌, List, ap, arith, length}
use Rattle.aom_image.specs.Image.{Image}
use Rattle.aom_image.specs.declared.method.Method.{Method}
use Rattle.aom_diagnostic_commands.proofs.EachAnswer.{none_first, one_more}
use Rattle.aom_diagnostic_commands.proofs.StaticBoundsLemmas.{within_method}
use Rattle.aom_diagnostic_commands.proofs.refusals.refusals_of.Goals as goal

pub refusal_of-requires : goal.refusal_of-requires
refusal_of-requires c =
    let shown : c.methods-methods.result.now ≡ c.args.linked.now.methods = c.methods-methods.ensures.value ∙ ap (λ (p : Image). p.methods) c.image.ensures in
    let count : c.len-index-end.result ≡ length c.args.linked.now.methods = c.len-index-end.ensures ∙ ap (λ (xs : List Method). length xs) shown in
    rw c.number_at.ensures (within_method c.args.linked.now _ (omega (arith, c.loop-index-test.true, count)))

pub loop-index-init : goal.loop-index-init
loop-index-init c = rw c.new-refusals.ensures.items (none_first c.args.linked.now)

pub loop-index-preserved : goal.loop-index-preserved
loop-index-preserved c =
    let answer = rw c.number_at.ensures at c.in_ok-refusal.ensures in
    rw c.in_ok-add_refusal.ensures (one_more _ _ _ _ c.loop-index.invariant answer)

pub returns : goal.returns
returns c =
    let shown : c.methods-methods.result.now ≡ c.args.linked.now.methods = c.methods-methods.ensures.value ∙ ap (λ (p : Image). p.methods) c.image.ensures in
    let count : c.len-index-end.result ≡ length c.args.linked.now.methods = c.len-index-end.ensures ∙ ap (λ (xs : List Method). length xs) shown in
    let all : c.loop-index.index ≡ length c.args.linked.now.methods = omega (arith, count, c.loop-index-test.false, c.loop-index.auto.index-end) in
    rw all at c.loop-index.invariant
