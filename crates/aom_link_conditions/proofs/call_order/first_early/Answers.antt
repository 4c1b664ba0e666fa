use Rattle.std.proofs.Common.{arith, None, subst}
use Rattle.aom_roles.specs.Firsts.{FirstNot, FirstOf}
use Rattle.aom_link_conditions.specs.Calls.{RunsBelow}
use Rattle.aom_link_conditions.proofs.Each.{refused, each_more, each_all, first_here}
use Rattle.aom_link_conditions.proofs.call_order.first_early.Goals as goal

pub loop-place-init : goal.loop-place-init
loop-place-init c = λ k lt. absurd (omega arith)

pub loop-place-preserved : goal.loop-place-preserved
loop-place-preserved c = each_more (λ _. RunsBelow c.args.image.now c.args.number c.args.method.now.class) _ _ _ c.loop-place.invariant
    c.loop-place-test.true c.index-code-place.is (c.may_run.ensures.0 c.if-not-may_run.false)

pub returns-then-not-may_run : goal.returns-then-not-may_run
returns-then-not-may_run c =
    let runs = RunsBelow c.args.image.now c.args.number c.args.method.now.class in
    subst (λ code. FirstNot (λ _. runs) code c.loop-place.place) c.as_slice-code.ensures (first_here (λ _. runs) _ _ _ c.loop-place.invariant
    c.loop-place-test.true c.index-code-place.is (refused _ c.may_run.ensures c.if-not-may_run.true))

pub returns : goal.returns
returns c =
    let runs = RunsBelow c.args.image.now c.args.number c.args.method.now.class in
    subst (λ code. FirstOf (λ _. runs) code None) c.as_slice-code.ensures (each_all (λ _. runs) _ _ c.loop-place-test.false c.loop-place.invariant)
