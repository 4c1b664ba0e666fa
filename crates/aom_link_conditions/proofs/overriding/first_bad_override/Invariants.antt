use Rattle.aom_link_conditions.specs.Overriding.{MayOverrideNamed}
use Rattle.aom_link_conditions.proofs.Each.{EachBelow}
use Rattle.aom_link_conditions.proofs.overriding.first_bad_override.Given as goal

abbrev pub invariant-loop-number : goal.invariant-loop-number
invariant-loop-number l = EachBelow (λ _. MayOverrideNamed l.image) l.methods l.number
