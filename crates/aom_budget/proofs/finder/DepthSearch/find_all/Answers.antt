-- The methods are found one by one.
use Rattle.std.proofs.Common.{◌≡◌, List, length, ◌∙◌, ap, arith}
use Rattle.aom_image.specs.Image.{Image}
use Rattle.aom_image.specs.declared.method.Method.{Method}
use Rattle.aom_budget.proofs.StaticBoundsLemmas.{within_method}
use Rattle.aom_budget.proofs.finder.DepthSearch.find_all.Goals as goal

pub find-requires-clause-method : goal.find-requires-clause-method
find-requires-clause-method c =
    let shown : c.methods-methods.result.now ≡ c.args.checked.now.methods = c.methods-methods.ensures.value
    ∙ ap (λ (p : Image). p.methods) (c.image.ensures ∙ c.linked.ensures) in
    let count : c.len-index-end.result ≡ length c.args.checked.now.methods = c.len-index-end.ensures ∙ ap (λ (xs : List Method). length xs) shown in
    rw c.number_at.ensures (within_method c.args.checked.now _ (omega (arith, c.loop-index-test.true, count)))
