use Rattle.aom_link_conditions.specs.Overriding.{IsOnly}
use Rattle.aom_link_conditions.proofs.Each.{EachBelow}
use Rattle.aom_link_conditions.proofs.overriding.first_other.Given as goal

abbrev pub invariant-loop-index : goal.invariant-loop-index
invariant-loop-index l = EachBelow (IsOnly l.image l.named) l.methods l.index
