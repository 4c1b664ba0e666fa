-- It is in none of the fields so far, and in no session so far.
use Rattle.std.proofs.Common.{◌≡◌, ◌<◌, ◌-◌, ◌++◌, ℕ, List, None, Some, length}
use Rattle.std.specs.List.{flat_map}
use Rattle.aom_debug_views.proofs.ClientsLemmas.{from}
use Rattle.aom_clients.specs.Clients.{sessions_at}
use Rattle.aom_clients.specs.Lists.{IsIn}
use Rattle.aom_image.specs.Image.{Image}
use Rattle.aom_machine_state.specs.Stands.{Refines}
use Rattle.aom_semantics.specs.State.{State}
use Rattle.aom_debug_views.specs.Owners.{Way, way_text}
use Rattle.aom_debug_views.specs.Reporting.{gathered}
use Rattle.aom_debug_views.specs.Seeking.{way_among}
use Rattle.aom_debug_views.proofs.Trees.{below, beyond}
use Rattle.aom_debug_views.proofs.seeking.+seek_tree.Given as goal

abbrev pub decreases-seek_tree : goal.decreases-seek_tree
decreases-seek_tree l = l.depth

abbrev pub invariant-loop-field : goal.invariant-loop-field
invariant-loop-field l = record {
  same : l.way ≡ l.initial.way;
  none : (p : Image) (w : Way) → l.initial.way ≡ way_text w → (s : State) → Refines (record { image = p; parts = l.parts }) s →
      way_among l.sought (gathered (below p l.parts l.id (l.depth - 1) w s) l.field) ≡ None;
}

abbrev pub invariant-loop-next : goal.invariant-loop-next
invariant-loop-next l = record {
  same : l.way ≡ l.initial.way;
  inside : (d : ℕ) → l.next ≡ Some d → IsIn d (sessions_at l.parts.clients l.id);
  small : (d : ℕ) → l.next ≡ Some d → d < 64;
  -- those that were looked at, and what hangs from them
  so_far : (done : List ℕ) × (done ++ from l.next (sessions_at l.parts.clients l.id) ≡ sessions_at l.parts.clients l.id)
      × ((p : Image) (w : Way) → l.initial.way ≡ way_text w → (s : State) → Refines (record { image = p; parts = l.parts }) s →
      way_among l.sought (flat_map (beyond p l.parts l.id (l.depth - 1) w s) done) ≡ None);
}

abbrev pub decreases-loop-next : goal.decreases-loop-next
decreases-loop-next l = length (from l.next (sessions_at l.parts.clients l.id))
