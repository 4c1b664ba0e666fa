use Rattle.std.proofs.Common.{ap, length, subst, arith}
use Rattle.std.proofs.lemmas.Bool.{eqb-true}
use Rattle.aom_link_conditions.specs.Families.{BeginsWith}
use Rattle.aom_link_conditions.proofs.Beginning.{begins_itself, begins_whole}
use Rattle.aom_link_conditions.proofs.overriding.same_arguments.Goals as goal

pub returns-then-one-other : goal.returns-then-one-other
returns-then-one-other c = (
  λ yes. begins_whole c.args.one.now c.args.other.now (c.begins_with.ensures.0 yes) (omega (arith, c.if-one-other.true)),
  λ same. c.begins_with.ensures.1 (subst (λ ys. BeginsWith c.args.one.now ys) same (begins_itself c.args.one.now)),
)

pub returns-else-one-other : goal.returns-else-one-other
returns-else-one-other c = (λ yes. absurd (c.if-one-other.false (eqb-true _ _ yes)), λ same. absurd (c.if-one-other.false (ap (λ xs. length xs) same)))
