-- The lines of the objects so far are out.
use Rattle.std.specs.Prelude.{map, slice_get}
use Rattle.aom_debug_views.specs.Actives.{active_placed}
use Rattle.aom_debug_views.specs.Reporting.{Reports, gathered}
use Rattle.aom_debug_views.specs.Seeking.{placed_by}
use Rattle.aom_debug_views.proofs.actives.report_actives.Given as goal

abbrev pub invariant-loop-place : goal.invariant-loop-place
invariant-loop-place g l = Reports (record { image = l.accepted; parts = l.parts }) (λ s. placed_by l.names (gathered (λ k. active_placed l.names l.accepted s
    (slice_get (map (λ e. e.id) l.parts.active.priority_list.entries) k)) l.place)) (g.W.Sink.out l.initial.out) (g.W.Sink.out l.out)
