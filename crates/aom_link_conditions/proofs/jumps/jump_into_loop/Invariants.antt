use Rattle.std.proofs.Common.{◌<◌, ℕ}
use Rattle.aom_link_conditions.specs.Jumps.{EndsClosed}
use Rattle.aom_link_conditions.proofs.jumps.jump_into_loop.Given as goal

abbrev pub invariant-loop-end : goal.invariant-loop-end
invariant-loop-end l = (q : ℕ) → q < l.end → EndsClosed l.code q
