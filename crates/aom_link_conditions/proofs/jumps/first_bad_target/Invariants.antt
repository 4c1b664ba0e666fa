use Rattle.std.proofs.Common.{length}
use Rattle.aom_link_conditions.specs.Jumps.{KeepsWithin}
use Rattle.aom_link_conditions.proofs.Each.{EachBelow}
use Rattle.aom_link_conditions.proofs.jumps.first_bad_target.Given as goal

abbrev pub invariant-loop-place : goal.invariant-loop-place
invariant-loop-place l = EachBelow (KeepsWithin (length l.code)) l.code l.place
