use Rattle.std.proofs.Common.{arith}
use Rattle.aom_roles.specs.Shapes.{NamesRoles}
use Rattle.aom_roles.proofs.Each.{each_all, each_more, first_here, refused}
use Rattle.aom_roles.proofs.shapes.first_misnaming.Goals as goal

pub loop-place-init : goal.loop-place-init
loop-place-init c = λ k h. absurd (omega arith)

pub loop-place-preserved : goal.loop-place-preserved
loop-place-preserved c = each_more (λ _. NamesRoles c.args.image.now) _ _ _ c.loop-place.invariant c.loop-place-test.true c.index-code-place.is
    (c.names_roles.ensures.0 c.if-not-names_roles.false)

pub returns-then-not-names_roles : goal.returns-then-not-names_roles
returns-then-not-names_roles c = first_here (λ _. NamesRoles c.args.image.now) _ _ _ c.loop-place.invariant c.loop-place-test.true c.index-code-place.is
    (refused _ c.names_roles.ensures c.if-not-names_roles.true)

pub returns : goal.returns
returns c = each_all (λ _. NamesRoles c.args.image.now) _ _ c.loop-place-test.false c.loop-place.invariant
