use Rattle.aom_link_conditions.specs.Needs.{NeedsMet}
use Rattle.aom_link_conditions.proofs.Each.{EachBelow}
use Rattle.aom_link_conditions.proofs.needs.first_missing_role.Given as goal

abbrev pub invariant-loop-class : goal.invariant-loop-class
invariant-loop-class l = EachBelow (NeedsMet l.image) l.classes l.class
