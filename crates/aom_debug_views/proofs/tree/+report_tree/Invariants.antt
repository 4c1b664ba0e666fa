-- Each object's fields are one generation further, and so are its sessions, and what hangs from those so far is out.
use Rattle.std.proofs.Common.{◌≡◌, ◌<◌, ◌-◌, ◌++◌, ℕ, List, Some, length}
use Rattle.std.specs.List.{flat_map}
use Rattle.aom_debug_views.proofs.ClientsLemmas.{from}
use Rattle.aom_clients.specs.Clients.{sessions_at}
use Rattle.aom_image.specs.Image.{Image}
use Rattle.aom_clients.specs.Lists.{IsIn}
use Rattle.aom_debug_views.specs.Owners.{Way, owned_line, way_text}
use Rattle.aom_debug_views.specs.Reporting.{Reports, gathered}
use Rattle.aom_debug_views.proofs.Trees.{below, done_text}
use Rattle.aom_debug_views.proofs.tree.+report_tree.Given as goal

abbrev pub decreases-report_tree : goal.decreases-report_tree
decreases-report_tree g l = l.depth

abbrev pub invariant-loop-field : goal.invariant-loop-field
invariant-loop-field g l = record {
  same : l.way ≡ l.initial.way;
  out : (p : Image) (w : Way) → l.initial.way ≡ way_text w → Reports (record { image = p; parts = l.parts })
      (λ s. flat_map (owned_line l.names) (gathered (below p l.parts l.id (l.depth - 1) w s) l.field)) (g.W.Sink.out l.initial.out) (g.W.Sink.out l.out);
}

abbrev pub invariant-loop-next : goal.invariant-loop-next
invariant-loop-next g l = record {
  same : l.way ≡ l.initial.way;
  inside : (d : ℕ) → l.next ≡ Some d → IsIn d (sessions_at l.parts.clients l.id);
  small : (d : ℕ) → l.next ≡ Some d → d < 64;
  -- those that were told, and what hangs from them
  so_far : (done : List ℕ) × (done ++ from l.next (sessions_at l.parts.clients l.id) ≡ sessions_at l.parts.clients l.id)
      × ((p : Image) (w : Way) → l.initial.way ≡ way_text w → Reports
      (record { image = p; parts = l.parts }) (done_text p l.parts l.names l.id (l.depth - 1) w done) (g.W.Sink.out l.initial.out) (g.W.Sink.out l.out));
}

abbrev pub decreases-loop-next : goal.decreases-loop-next
decreases-loop-next g l = length (from l.next (sessions_at l.parts.clients l.id))
