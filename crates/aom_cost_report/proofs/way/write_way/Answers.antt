-- The way from a method on is an edge and the way from the next one.
use Rattle.std.proofs.Common.{◌≡◌, ◌∙◌, ap, arith, length, sym, List}
use Rattle.aom_image.specs.Image.{Image}
use Rattle.aom_image.specs.declared.method.Method.{Method}
use Rattle.aom_cost_report.proofs.Going.{begins, goes_on, over}
use Rattle.aom_cost_report.proofs.way.write_way.Goals as goal

pub loop-init : goal.loop-init
loop-init c =
    let shown : c.methods.result.now ≡ c.args.linked.now.methods = c.methods.ensures.value ∙ ap (λ (p : Image). p.methods) c.image.ensures in
    let count : c.len-count.result ≡ length c.args.linked.now.methods = c.len-count.ensures ∙ ap (λ (xs : List Method). length xs) shown in
    begins c.args.linked.now c.args.figures.now.prices c.len-count.result c.main-at.result c.args.out.now c.main-at.ensures count

pub loop-preserved : goal.loop-preserved
loop-preserved c = goes_on c.args.linked.now c.args.figures.now.prices _ c.loop.counter _ c.in-Some.edge _ _ _ c.loop-test.true
    (sym c.in-Some.is ∙ c.costliest_of.ensures) c.in_ok-write_bold-in-Some.ensures c.loop.invariant

pub returns : goal.returns
returns c = over c.args.linked.now c.args.figures.now.prices _ _ _ _ _ (λ less. omega (arith, less, c.loop-test.false)) c.loop.invariant
