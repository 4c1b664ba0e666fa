use Rattle.std.proofs.Common.{arith}
use Rattle.aom_link_conditions.specs.Overriding.{MayOverrideNamed}
use Rattle.aom_link_conditions.proofs.Each.{refused, each_more, each_all, first_here}
use Rattle.aom_link_conditions.proofs.overriding.first_bad_override.Goals as goal

pub loop-number-init : goal.loop-number-init
loop-number-init c = λ k lt. absurd (omega arith)

pub loop-number-preserved : goal.loop-number-preserved
loop-number-preserved c = each_more (λ _. MayOverrideNamed c.args.image.now) _ _ _ c.loop-number.invariant c.loop-number-test.true c.index-methods-number.is
    (c.may_override_named.ensures.0 c.if-not-may_override_named.false)

pub returns-then-not-may_override_named : goal.returns-then-not-may_override_named
returns-then-not-may_override_named c = first_here (λ _. MayOverrideNamed c.args.image.now) _ _ _ c.loop-number.invariant c.loop-number-test.true
    c.index-methods-number.is (refused _ c.may_override_named.ensures c.if-not-may_override_named.true)

pub returns : goal.returns
returns c = each_all (λ _. MayOverrideNamed c.args.image.now) _ _ c.loop-number-test.false c.loop-number.invariant
