use Rattle.aom_roles.specs.Shapes.{NamesRoles}
use Rattle.aom_roles.proofs.Each.{EachBelow}
use Rattle.aom_roles.proofs.shapes.first_misnaming.Given as goal

abbrev pub invariant-loop-place : goal.invariant-loop-place
invariant-loop-place l = EachBelow (λ _. NamesRoles l.image) l.code l.place
