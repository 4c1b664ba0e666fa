-- It hangs from none of the registers so far.
use Rattle.std.proofs.Common.{◌≡◌, None}
use Rattle.aom_machine_state.specs.Stands.{Refines}
use Rattle.aom_semantics.specs.State.{State}
use Rattle.aom_debug_views.specs.Owners.{frame_registers}
use Rattle.aom_debug_views.specs.Seeking.{way_among}
use Rattle.aom_debug_views.proofs.seeking.seek_task.Given as goal

abbrev pub invariant-loop-register : goal.invariant-loop-register
invariant-loop-register l = (s : State) → Refines (record { image = l.checked; parts = l.parts }) s →
    way_among l.sought (frame_registers s.cells l.depth l.frames l.register) ≡ None
