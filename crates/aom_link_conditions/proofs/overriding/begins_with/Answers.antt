use Rattle.std.proofs.Common.{◌≡◌, Some, slice_get, refl, arith}
use Rattle.aom_link_conditions.proofs.Each.{refused, each_more, each_all, each_not}
use Rattle.aom_link_conditions.proofs.overriding.begins_with.Goals as goal

pub loop-index-init : goal.loop-index-init
loop-index-init c = λ k lt. absurd (omega arith)

pub returns-then-not-has_argument : goal.returns-then-not-has_argument
returns-then-not-has_argument c = each_not (λ i t. slice_get c.args.arguments.now i ≡ Some t) _ _ _ c.loop-index-test.true c.index-first-index.is
    (refused _ c.has_argument.ensures c.if-not-has_argument.true)

pub loop-index-preserved : goal.loop-index-preserved
loop-index-preserved c =
    let here = c.has_argument.ensures.0 c.if-not-has_argument.false in
    each_more (λ i t. slice_get c.args.arguments.now i ≡ Some t) _ _ _ c.loop-index.invariant c.loop-index-test.true c.index-first-index.is here

pub returns : goal.returns
returns c = (λ _. each_all (λ i t. slice_get c.args.arguments.now i ≡ Some t) _ _ c.loop-index-test.false c.loop-index.invariant, λ _. refl)
