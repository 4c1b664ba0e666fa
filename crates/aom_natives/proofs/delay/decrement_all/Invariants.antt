use Rattle.std.proofs.Common.{◌≡◌, ◌++◌, map, take, drop}
use Rattle.aom_natives.specs.Delays.{lowered}
use Rattle.aom_natives.proofs.delay.decrement_all.Given as goal

abbrev pub invariant-loop-entry : goal.invariant-loop-entry
invariant-loop-entry l = l.entries ≡ map lowered (take l.entry-index l.initial.entries) ++ drop l.entry-index l.initial.entries
