use Rattle.aom_link_conditions.specs.Families.{ContinuesParent}
use Rattle.aom_link_conditions.proofs.Each.{EachBelow}
use Rattle.aom_link_conditions.proofs.families.first_bad_child.Given as goal

abbrev pub invariant-loop-class : goal.invariant-loop-class
invariant-loop-class l = EachBelow (λ _. ContinuesParent l.image) l.classes l.class
