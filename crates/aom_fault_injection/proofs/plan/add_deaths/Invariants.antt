-- The deaths at the times so far were added.
use Rattle.std.proofs.Common.{◌≡◌, ◌++◌, take}
use Rattle.aom_fault_injection.specs.Planned.{deaths_of}
use Rattle.aom_fault_injection.proofs.plan.add_deaths.Given as goal

abbrev pub invariant-loop-time : goal.invariant-loop-time
invariant-loop-time l = l.injections.items ≡ l.fn.injections.items ++ deaths_of (take l.time-index l.times) l.victims
