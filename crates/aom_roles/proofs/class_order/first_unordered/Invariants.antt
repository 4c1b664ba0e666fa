use Rattle.aom_roles.specs.Classes.{ClassOrdered}
use Rattle.aom_roles.proofs.Each.{EachBelow}
use Rattle.aom_roles.proofs.class_order.first_unordered.Given as goal

abbrev pub invariant-loop-class : goal.invariant-loop-class
invariant-loop-class l = EachBelow (ClassOrdered l.image) l.classes l.class
