-- What hangs from the items so far is out, and their entries are counted.
use Rattle.std.proofs.Common.{◌≡◌, ◌≤◌}
use Rattle.aom_image.specs.Image.{Image}
use Rattle.aom_machine_state.specs.Stands.{Refines}
use Rattle.aom_semantics.specs.Owned.{over}
use Rattle.aom_semantics.specs.State.{State}
use Rattle.aom_debug_views.specs.Owners.{entries_map, is_entry, owners_text}
use Rattle.aom_debug_views.specs.CellViews.{counted}
use Rattle.aom_debug_views.specs.Reporting.{Reports}
use Rattle.aom_debug_views.proofs.owners.report_entries.Given as goal

abbrev pub invariant-loop-height : goal.invariant-loop-height
invariant-loop-height g l = record {
  few : l.entries ≤ l.height;
  count : (p : Image) (s : State) → Refines (record { image = p; parts = l.parts }) s → l.entries ≡ counted (λ k. is_entry (over s.items k)) l.height;
  out : (p : Image) →
      Reports (record { image = p; parts = l.parts }) (λ s. owners_text l.names (entries_map s l.height)) (g.W.Sink.out l.initial.out) (g.W.Sink.out l.out);
}
