-- The places so far lead there in no other state.
use Rattle.aom_path_conflicts.specs.Conflicts.{NoneFrom}
use Rattle.aom_path_conflicts.proofs.conflict.find_conflict.Given as goal

abbrev pub invariant-loop-from : goal.invariant-loop-from
invariant-loop-from l = NoneFrom l.linked l.method l.states l.place l.known.registers l.from
