-- All before this place were tried, and what is counted is how the runs that are told ended.
use Rattle.std.proofs.Common.{◌≤◌, ◌-◌, length}
use Rattle.aom_fault_injection.specs.Expected.{exploration_of}
use Rattle.aom_commands.proofs.Tries.{SoFar}
use Rattle.aom_commands.proofs.exploring.try_all.Given as goal

abbrev pub invariant-loop-place : goal.invariant-loop-place
invariant-loop-place g l = record {
  far : SoFar l.trial.accepted.now l.trial.script.now l.trial.limit (length l.trial.kinds.now) (exploration_of l.options) l.fn.plain l.injections l.place
      l.told.outcome_counts l.told.unexpected (record { before = g.W.Sink.out l.fn.out; now = g.W.Sink.out l.out; failed = g.W.Sink.failed l.out });
  within : l.place ≤ length l.injections;
}

abbrev pub decreases-loop-place : goal.decreases-loop-place
decreases-loop-place g l = length l.injections - l.place
