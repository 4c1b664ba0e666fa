-- The lines of the objects so far are out.
use Rattle.std.specs.Prelude.{map, slice_get}
use Rattle.aom_debug_views.specs.Timers.{timer_placed}
use Rattle.aom_debug_views.specs.Reporting.{Reports, gathered}
use Rattle.aom_debug_views.specs.Seeking.{placed_by}
use Rattle.aom_debug_views.proofs.timers.report_timers.Given as goal

abbrev pub invariant-loop-place : goal.invariant-loop-place
invariant-loop-place g l = Reports (record { image = l.accepted; parts = l.parts }) (λ s. placed_by l.names (gathered (λ k. timer_placed l.names s
    (slice_get (map (λ t. t.id) l.parts.active.pending.timers) k)) l.place)) (g.W.Sink.out l.initial.out) (g.W.Sink.out l.out)
