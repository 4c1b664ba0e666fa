-- The registers so far have kinds that meet.
use Rattle.aom_path_conflicts.specs.Conflicts.{NoneBelow}
use Rattle.aom_path_conflicts.proofs.conflict.first_apart.Given as goal

abbrev pub invariant-loop-register : goal.invariant-loop-register
invariant-loop-register l = NoneBelow l.here.registers l.there.registers l.register
