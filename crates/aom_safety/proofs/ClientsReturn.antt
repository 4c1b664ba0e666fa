-- What is kept of clients stays so where a method returns, where a message is completed, and where a dispatch comes to its end.
use Rattle.std.proofs.lemmas.Bool.Decides.{nat_tests}
use Rattle.aom_semantics.specs.Destruction.{line_on}
use Rattle.std.proofs.Common.{[], Bool, List, Some, ap, cond, false, refl, subst, sym, true, ℕ, ℤ, ◌∙◌, ◌∷◌, ◌≡◌, ◌<◌, arith}
use Rattle.std.specs.List.{list_any}
use Rattle.aom_image.specs.Image.{Image}
use Rattle.aom_image.specs.declared.method.Gives.{Gives}
use Rattle.aom_clients.specs.declared.client.Client.{Client}
use Rattle.aom_safety.proofs.ClientsFacts.{IsAt}
use Rattle.aom_safety.proofs.ClientsFit.{IsFit, fit_accepted}
use Rattle.aom_safety.proofs.ClientsSteady.{Steady, carried_filtered_cells, fit_steady, quiet_cell, sender_stays}
use Rattle.aom_safety.proofs.ClientsMoves.{NoQueue, steady_moved, steady_result, tasks_queues, tasks_steady}
use Rattle.aom_safety.proofs.SemanticsLemmas.{named_moved, requested_moved, same_place-true, same_place_comm}
use Rattle.aom_safety.proofs.FilteredCells.{cell_in, cell_of, cell_placed, held_cell, object_in, filtered_cells, clients_filtered_cells}
use Rattle.aom_semantics.specs.Calls.{answered_by, result_cells, returned}
use Rattle.aom_semantics.specs.Clients.{most_of}
use Rattle.aom_safety.specs.Kept.{ClientsFit, TasksKept, is_connect_of, is_message_of}
use Rattle.aom_semantics.specs.Places.{Cell, Elsewhere, Object, Place, Queued, Session, NoDuplicates, held, moved, named, same_place, service_of, without, requested}
use Rattle.aom_semantics.specs.Servers.{is_server}
use Rattle.aom_semantics.specs.State.{Receiver, Accept_left, Accepts, Destroy, Dispatch, Dispatched, Frame}
use Rattle.aom_semantics.specs.State.{Of_server, Disconnects, Run, OwnedObject, State, Task, Trapped, Unwind}
use Rattle.aom_semantics.specs.Words.{here}
use Rattle.aom_semantics.specs.Requests.{thing_kind}
use Rattle.aom_safety.proofs.OwnedPlaced.{owned_objects_same}
use Rattle.std.specs.Prelude.{is_some}

-- the same clients with the same cells, whatever is at hand
pub same_cells : (p : Image) (s : State) → ClientsFit p s.clients s.cells → (u : State) → u.cells ≡ s.cells → u.clients ≡ s.clients →
    TasksKept p s.clients s.cells u.tasks → IsFit p u
same_cells p s fit u cells clients stage = record {
  fit = subst (λ l. ClientsFit p l u.cells) (sym clients) (subst (λ l. ClientsFit p s.clients l) (sym cells) fit);
  stage = subst (λ l. TasksKept p l u.cells u.tasks) (sym clients) (subst (λ l. TasksKept p s.clients l u.tasks) (sym cells) stage);
}

-- ---- a method returns

module _ (p : Image) (fr : Frame) (ts : List Task) (s : State) (fit : ClientsFit p s.clients s.cells) where
  result_kept :
      (g : Gives) (a c : ℕ) (below : List Task) (u : State) → u.cells ≡ result_cells p fr ts s g a c below → u.clients ≡ s.clients → (u.tasks ≡ u.tasks) →
      ((cs : List Cell) → TasksKept p s.clients cs below → TasksKept p s.clients cs u.tasks) → TasksKept p s.clients s.cells below → IsFit p u
  result_kept g a c below u cells clients same over stage =
      let still = steady_result p fr ts s g a c below in
      record {
        fit = grind (arith, nat_tests, fit_steady p s.clients s.cells);
        stage = grind (arith, nat_tests, tasks_steady p s.clients s.cells);
      }

  -- to the dispatch of a server
  module _ (g : Gives) (a : ℕ) (below : List Task) where
    accept_kept : (x : OwnedObject) (c : ℕ) → named s.cells x.object.name ≡ Some x.object → is_server p x.object.thing ≡ true →
        is_some (requested s.cells x.object.name) ≡ true → TasksKept p s.clients s.cells (Dispatched (Of_server x c Accepts) ∷ below) →
        IsFit p (returned p fr ts s g a (Trapped ∷ Dispatched (Of_server x c Accepts) ∷ below))
    accept_kept x c lives serves listed stage =
        let still = steady_moved s.cells (here fr ts s a) (Elsewhere (Session x.object.name c)) (λ n m. refl) refl in
        record {
          fit = fit_accepted p s.clients (moved (here fr ts s a) (Elsewhere (Session x.object.name c)) s.cells) (fit_steady p s.clients s.cells (moved (here fr
              ts s a) (Elsewhere (Session x.object.name c)) s.cells) still fit) x.object (named_moved s.cells (here fr ts s a) (Elsewhere (Session x.object.name
              c)) x.object.name ∙ lives) serves (ap is_some (requested_moved s.cells (here fr ts s a) (Elsewhere (Session x.object.name c)) x.object.name)
              ∙ listed) c _ stage.0 (ap (λ q. list_any (is_connect_of c) q) (still.queues x.object.name) ∙ stage.1) (subst (λ n. n < most_of
              (thing_kind p x.object.thing)) (sym (owned_objects_same (service_of (moved (here fr ts s a) (Elsewhere (Session x.object.name c)) s.cells) x.object.name)
              (service_of s.cells x.object.name) (still.queues x.object.name) (still.sessions x.object.name))) stage.2);
          stage = tt;
        }

    ended_kept : (d : Dispatch) → ((x : OwnedObject) (c : ℕ) → d ≡ Of_server x c Accepts →
        (named s.cells x.object.name ≡ Some x.object) × (is_server p x.object.thing ≡ true) × (is_some (requested s.cells x.object.name) ≡ true)) →
        TasksKept p s.clients s.cells (Dispatched d ∷ below) → IsFit p (returned p fr ts s g a (Trapped ∷ Dispatched d ∷ below))
    ended_kept (Of_server x c Accepts) there stage = let l = there x c refl in accept_kept x c l.0 l.1 l.2 stage
    ended_kept (Of_server x c (Accept_left code)) there stage = same_cells p s fit _ refl refl stage
    ended_kept (Of_server x c Disconnects) there stage = same_cells p s fit _ refl refl stage
    ended_kept _ there stage = same_cells p s fit _ refl refl tt

  answered_stage : (answer : ℤ) (d : Dispatch) (below : List Task) → TasksKept p s.clients s.cells (Dispatched d ∷ below) →
      TasksKept p s.clients s.cells (Dispatched (answered_by answer d) ∷ below)
  answered_stage answer x below k = grind arith

  -- the next destructor of a line, or the cell
  line_kept : (m : ℕ) (receiver : Receiver) (height : ℕ) (below : List Task) → TasksKept p s.clients s.cells (Destroy ∷ below) →
      TasksKept p s.clients s.cells (line_on p m receiver height below)
  line_kept m x height below k = grind arith

  -- to whatever is below; where it is the end of `accept`, its server stands
  pub return_kept : (g : Gives) (a : ℕ) (below : List Task) → ((x : OwnedObject) (c : ℕ) → IsAt (Of_server x c Accepts) below →
      (named s.cells x.object.name ≡ Some x.object) × (is_server p x.object.thing ≡ true) × (is_some (requested s.cells x.object.name) ≡ true)) →
      s.tasks ≡ Run fr ∷ ts → TasksKept p s.clients s.cells below → TasksKept p s.clients s.cells ts → IsFit p (returned p fr ts s g a below)
  return_kept g a (Run caller ∷ below) there tasks stage all = result_kept g a _ below _ refl refl refl (λ cs k. k) stage
  return_kept g a (Trapped ∷ Run caller ∷ below) there tasks stage all = result_kept g a _ below _ refl refl refl (λ cs k. k) stage
  return_kept g a (Trapped ∷ Dispatched d ∷ below) there tasks stage all = ended_kept g a below d there stage
  return_kept g a (Destroy ∷ below) there tasks stage all = same_cells p s fit _ refl refl (line_kept fr.method fr.receiver fr.height below stage)
  return_kept g a (Unwind code ∷ below) there tasks stage all = same_cells p s fit _ refl refl stage
  return_kept g a (Dispatched d ∷ below) there tasks stage all = same_cells p s fit _ refl refl (answered_stage _ d below stage)
  return_kept g a _ there tasks stage all = same_cells p s fit s refl refl (subst (λ l. TasksKept p s.clients s.cells l) (sym tasks) all)

-- ---- a cell goes of which clients have nothing

pub without_so : (g : Place) (cs : List Cell) → without g cs ≡ filtered_cells (λ c. same_place c.owner g) (λ c. c.service) cs
without_so g [] = refl
without_so g (c ∷ cs) = ap (λ l. cond (same_place c.owner g) l (c ∷ l)) (without_so g cs)

module _ (p : Image) (clients : List Client) (cs : List Cell) (no_duplicates : NoDuplicates cs)
    (fit : ClientsFit p clients cs) (o : Object) (g : Place) (there : held cs g ≡ Some o) (apart : NoQueue g) (plain : is_server p o.thing ≡ false)
    (queued : (n c m : ℕ) → list_any (is_message_of c m) (service_of cs n).queue ≡ true → (x : Object) × (held cs (Elsewhere (Queued n m)) ≡ Some x)) where
  abbrev drops : Cell → Bool
  drops c = same_place c.owner g

  abbrev left : List Cell
  left = filtered_cells drops (λ c. c.service) cs

  -- it is that cell
  empty : (n : ℕ) (x : Cell) → cell_of cs n ≡ Some x → drops x ≡ true → (x.service.queue ≡ []) × (x.service.sessions ≡ [])
  empty n x e goes =
      let in_place : cell_in cs x.owner ≡ Some x = cell_placed cs n x no_duplicates e in
      let one : Some x.object ≡ Some o = sym (held_cell cs x.owner ∙ ap object_in in_place) ∙ ap (λ q. held cs q) (same_place-true x.owner g goes) ∙ there in
      let equal : x.object ≡ o = cc in
      quiet_cell p clients cs no_duplicates fit n x e (ap (λ y. is_server p y.thing) equal ∙ plain)

  service_left : (n : ℕ) → ((service_of left n).queue ≡ (service_of cs n).queue) × ((service_of left n).sessions ≡ (service_of cs n).sessions)
  service_left n = clients_filtered_cells drops cs no_duplicates n (empty n)

  stays : (n m : ℕ) (y : Cell) → y.owner ≡ Elsewhere (Queued n m) → drops y ≡ false
  stays n m y owner = ap (λ q. same_place q g) owner ∙ same_place_comm (Elsewhere (Queued n m)) g ∙ apart n m

  steady_left : Steady cs left
  steady_left = record {
    carried = carried_filtered_cells drops (λ c. c.service) (λ c. refl) (λ c. refl) cs no_duplicates;
    queues = λ n. (service_left n).0;
    sessions = λ n. (service_left n).1;
    senders = λ n d m h from. sender_stays p clients cs no_duplicates fit drops queued n d m (stays n m) h;
  }

  pub fit_without : ClientsFit p clients (without g cs)
  fit_without = subst (λ l. ClientsFit p clients l) (sym (without_so g cs)) (fit_steady p clients cs left steady_left fit)

  pub tasks_without : (ts : List Task) → TasksKept p clients cs ts → TasksKept p clients (without g cs) ts
  tasks_without ts k = tasks_queues p clients cs (without g cs) (λ n. ap (λ l. (service_of l n).queue) (without_so g cs) ∙ (service_left n).0)
      (λ n. ap (λ l. (service_of l n).sessions) (without_so g cs) ∙ (service_left n).1) ts k
