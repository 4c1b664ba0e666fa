-- What hangs from the registers of the tasks so far is out, and their frames are counted.
use Rattle.std.proofs.Common.{◌≡◌, ◌≤◌}
use Rattle.aom_machine_state.specs.Stands.{Refines}
use Rattle.aom_semantics.specs.Owned.{over}
use Rattle.aom_semantics.specs.State.{State}
use Rattle.aom_debug_views.specs.Owners.{is_frame, owners_text, registers_map}
use Rattle.aom_debug_views.specs.CellViews.{counted}
use Rattle.aom_debug_views.specs.Reporting.{Reports}
use Rattle.aom_debug_views.proofs.owners.report_registers.Given as goal

abbrev pub invariant-loop-depth : goal.invariant-loop-depth
invariant-loop-depth g l = record {
  few : l.frames ≤ l.depth;
  count : (s : State) → Refines (record { image = l.checked; parts = l.parts }) s → l.frames ≡ counted (λ k. is_frame (over s.tasks k)) l.depth;
  out : Reports (record { image = l.checked; parts = l.parts }) (λ s. owners_text l.names (registers_map s l.depth)) (g.W.Sink.out l.initial.out) (g.W.Sink.out l.out);
}
