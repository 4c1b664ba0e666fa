-- The loops so far are out.
use Rattle.std.proofs.Common.{ℕ}
use Rattle.aom_abstract_state.specs.AbstractState.{AbstractState}
use Rattle.aom_semantics.specs.Owned.{over}
use Rattle.aom_machine_state.specs.Stands.{MachineModel}
use Rattle.aom_debug_views.specs.Frames.{ShowsFrame, loops_in}
use Rattle.aom_debug_views.specs.Reporting.{Reports, answers_by}
use Rattle.aom_debug_views.proofs.frames.report_loops.Given as goal

abbrev pub invariant-loop-number : goal.invariant-loop-number
invariant-loop-number g l = (m : MachineModel) (sh : AbstractState) (depth : ℕ) →
    ShowsFrame m sh l.frame depth → Reports m (λ s. answers_by l.names (loops_in (over s.tasks depth) l.number)) (g.W.Sink.out l.initial.out) (g.W.Sink.out l.out)
