use Rattle.aom_link_conditions.specs.Jumps.{StaysOut}
use Rattle.aom_link_conditions.proofs.Each.{EachBelow}
use Rattle.aom_link_conditions.proofs.jumps.first_into.Given as goal

abbrev pub invariant-loop-place : goal.invariant-loop-place
invariant-loop-place l = EachBelow (StaysOut l.start l.end) l.code l.place
