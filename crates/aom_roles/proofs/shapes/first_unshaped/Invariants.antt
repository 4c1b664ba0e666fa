use Rattle.aom_roles.specs.Shapes.{IsShaped}
use Rattle.aom_roles.proofs.Each.{EachBelow}
use Rattle.aom_roles.proofs.shapes.first_unshaped.Given as goal

abbrev pub invariant-loop-number : goal.invariant-loop-number
invariant-loop-number l = EachBelow (λ _. IsShaped l.image) l.methods l.number
