use Rattle.std.proofs.Common.{◌≡◌, []}
use Rattle.std.specs.Prelude.{replicate}
use Rattle.aom_natives.proofs.natives.room_for.Given as goal

abbrev pub invariant-loop : goal.invariant-loop
invariant-loop g l = l.rooms.items ≡ replicate l.counter []
