-- What hangs from the destructions so far is out, and they are counted.
use Rattle.std.proofs.Common.{◌≡◌, ◌≤◌}
use Rattle.aom_image.specs.Image.{Image}
use Rattle.aom_machine_state.specs.Stands.{Refines}
use Rattle.aom_semantics.specs.Owned.{over}
use Rattle.aom_semantics.specs.State.{State}
use Rattle.aom_debug_views.specs.Owners.{goings_map, is_going, owners_text}
use Rattle.aom_debug_views.specs.CellViews.{counted}
use Rattle.aom_debug_views.specs.Reporting.{Reports}
use Rattle.aom_debug_views.proofs.owners.report_goings.Given as goal

abbrev pub invariant-loop-depth : goal.invariant-loop-depth
invariant-loop-depth g l = record {
  few : l.goings ≤ l.depth;
  count : (p : Image) (s : State) → Refines (record { image = p; parts = l.parts }) s → l.goings ≡ counted (λ k. is_going (over s.tasks k)) l.depth;
  out : (p : Image) →
      Reports (record { image = p; parts = l.parts }) (λ s. owners_text l.names (goings_map s l.depth)) (g.W.Sink.out l.initial.out) (g.W.Sink.out l.out);
}
