use Rattle.aom_link_conditions.specs.Needs.{ClassSingle}
use Rattle.aom_link_conditions.proofs.Each.{EachBelow}
use Rattle.aom_link_conditions.proofs.needs.first_double.Given as goal

abbrev pub invariant-loop-class : goal.invariant-loop-class
invariant-loop-class l = EachBelow (λ k _. ClassSingle l.methods k) l.classes l.class
