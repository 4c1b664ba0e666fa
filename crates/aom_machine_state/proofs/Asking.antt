-- The requests of the enlisted objects, where cells move, change, come and go.
use Rattle.std.proofs.lemmas.Bool.Decides.{nat_tests}
use Rattle.std.specs.Prelude.{is_some}
use Rattle.std.proofs.Common.{ap, Bool, false, inl, inr, List, None, Option, refl, Some, subst, suc, sym, true, ℕ, ℤ, ◌==◌, ◌∙◌, ◌∷◌, ◌≡◌, [], cond, pos, arith}
use Rattle.std.proofs.lemmas.Bool.{eqb-true, false≢true}
use Rattle.aom_image.specs.Image.{Image}
use Rattle.aom_image.specs.declared.method.Argument.{Argument}
use Rattle.aom_image.specs.declared.method.Argument.TheVariants.{Own as Takes_own, Word as Takes_word}
use Rattle.aom_image.specs.declared.method.Thing.{Thing}
use Rattle.aom_machine_state.proofs.SafetyLemmas.{count_asked, each_slot_released_alike, each_slot_released_requests, named_served, named_set_word, requested_served}
use Rattle.aom_machine_state.proofs.SafetyLemmas.{requested_set_word, request_updated_alike, service_here, service_moved, service_stored, service_there}
use Rattle.aom_semantics.specs.Calls.{passed_cells}
use Rattle.aom_semantics.specs.Places.{Cell, Object, Place, Register, Request, Service, NoDuplicates, held, moved, named, requested, service_of}
use Rattle.aom_semantics.specs.Places.{set_service, set_word_field, with_new, without, Elsewhere, Root, set_request, word_field}
use Rattle.aom_semantics.specs.Clients.{each_slot_released}
use Rattle.aom_semantics.specs.State.{Frame, Receiver, Inside, State, Task}
use Rattle.aom_semantics.specs.Words.{here, stored}
use Rattle.aom_scheduler.specs.Requests.{request_at}
use Rattle.aom_machine_state.proofs.SemanticsLemmas.{named_moved, requested_moved, requested_without, unrequested}
use Rattle.aom_active_objects.specs.Agrees.{Active, RequestAgrees, queued}
use Rattle.aom_active_objects.specs.Meanings.{Removes, asked_anew}
use Rattle.aom_machine_state.proofs.ActiveObjectsLemmas.{asked_gone, asked_new, queued_gone, queued_same, status_is_determined}
use Rattle.aom_machine_state.specs.Agrees.{SameRequests, SameCells, thing_of}
use Rattle.aom_machine_state.specs.Cells.{Delists}
use Rattle.aom_machine_state.proofs.Cells.{cells_as}
use Rattle.aom_machine_state.proofs.Serving.{absent_served}
use Rattle.aom_roles.specs.Tables.{at}
use Rattle.aom_cells.specs.Heap.{Heap}
use Rattle.aom_image.specs.declared.method.Thing.TheVariants.{Message}

module _ (p : Image) (a : Active) where
  -- it does not matter by which cells the requests and the queues are told
  pub requests_as : (cs ds : List Cell) → ((n : ℕ) → requested cs n ≡ requested ds n) →
      ((n : ℕ) → is_some (requested ds n) ≡ true → queued p cs n ≡ queued p ds n) → SameRequests p a cs → SameRequests p a ds
  requests_as cs ds same queues h =
      record { stands = status_is_determined a (requested cs) (requested ds) (queued p cs) (queued p ds) same queues h.stands; limit = h.limit }

  -- where the cells and what waits at them are as they were
  pub requests_alike : (cs ds : List Cell) → ((n : ℕ) → requested ds n ≡ requested cs n) →
      ((n : ℕ) → named ds n ≡ named cs n) → ((n : ℕ) → (service_of ds n).queue ≡ (service_of cs n).queue) → SameRequests p a cs → SameRequests p a ds
  requests_alike cs ds same names queues h = requests_as cs ds (λ n. sym (same n)) (λ n there. sym (queued_same p cs ds names queues n)) h

  pub requests_moved : (cs : List Cell) (q r : Place) → SameRequests p a cs → SameRequests p a (moved q r cs)
  requests_moved cs q r h =
      requests_alike cs (moved q r cs) (requested_moved cs q r) (named_moved cs q r) (λ n. ap (λ (v : Service). v.queue) (service_moved cs q r n)) h

  requests_written : (cs : List Cell) (n w : ℕ) (v : ℤ) → SameRequests p a cs → SameRequests p a (set_word_field n w v cs)
  requests_written cs n w v h = requests_alike cs (set_word_field n w v cs) (requested_set_word cs n w v) (named_set_word cs n w v)
      (λ k. ap (λ (x : Service). x.queue) (service_stored cs n w v k)) h

  pub requests_stored : (cs : List Cell) (receiver : Receiver) (w : ℕ) (v : ℤ) → SameRequests p a cs → SameRequests p a (stored cs receiver w v)
  requests_stored cs (Inside o from) w v h = requests_written cs o.name w v h
  requests_stored cs _ w v h = h

  pub requests_made : (cs : List Cell) (n : ℕ) (thing : Thing) (words : List ℤ) (owner : Place) → named cs n ≡ None → SameRequests p a cs →
      SameRequests p a (with_new n thing words owner cs)
  requests_made cs n thing words owner fresh h = grind (arith, nat_tests, requests_as cs, asked_new cs n thing words owner fresh)

  -- what clients have at a cell changes, but for its queue
  pub requests_kept : (cs : List Cell) (n : ℕ) (v : Service) → v.queue ≡ (service_of cs n).queue → SameRequests p a cs → SameRequests p a (set_service n v cs)
  requests_kept cs n v same h = grind (
    arith,
    nat_tests,
    requests_alike cs,
    requested_served cs n v,
    named_served cs n v,
    service_there cs n,
    eqb-true n,
    service_here cs n v,
    absent_served cs n v,
  )

  pub requests_slot_released : (clients : List ℕ) (cs : List Cell) → SameRequests p a cs → SameRequests p a (each_slot_released clients cs)
  requests_slot_released clients cs h = grind (arith, nat_tests, each_slot_released_alike clients cs, requests_alike cs, each_slot_released_requests clients cs)

module _ (p : Image) (fr : Frame) (ts : List Task) (s : State) (a : Active) where
  pub requests_passed : (depth : ℕ) (xs : List Argument) (first to : ℕ) (cs : List Cell) → SameRequests p a cs →
      SameRequests p a (passed_cells p fr ts s depth xs first to cs)
  requests_passed depth [] first to cs h = h
  requests_passed depth (Takes_word ∷ xs) first to cs h = requests_passed depth xs (suc first) (suc to) cs h
  requests_passed depth (Takes_own t ∷ xs) first to cs h = requests_passed depth xs (suc first) (suc to) (moved (here fr ts s first) (Register depth to) cs)
      (requests_moved p a cs (here fr ts s first) (Register depth to) h)

-- a cell that goes is enlisted no more
no_request : (r : Option Request) (waits : Option Bool) → RequestAgrees None r waits → r ≡ None
no_request x waits reports = grind arith

pub requests_gone : (p : Image) (old new : Active) (cs : List Cell) (g : Place) (o : Object) →
    NoDuplicates cs → held cs g ≡ Some o → Delists old new o.name → SameRequests p old cs → SameRequests p new (without g cs)
requests_gone p old new cs g o no_duplicates holds off h = elim off [ inl none ↦ unlisted none.0 none.1 | inr removes ↦ delisted removes ]
  where
    waits : (n : ℕ) → is_some (requested (without g cs) n) ≡ true → queued p cs n ≡ queued p (without g cs) n
    waits n asked = go (o.name == n) refl
      where
        go : (b : Bool) → (o.name == n) ≡ b → queued p cs n ≡ queued p (without g cs) n
        go true is = absurd (false≢true (sym (ap is_some (asked_gone cs g o no_duplicates holds n ∙ ap (λ b. cond b None (requested cs n)) is)) ∙ asked))
        go false other = sym (queued_gone p cs g o no_duplicates holds n other)

    unlisted : request_at old.table o.name ≡ None → new ≡ old → SameRequests p new (without g cs)
    unlisted none same = subst (λ b. SameRequests p b (without g cs)) (sym same) (requests_as p old cs (without g cs) (λ n. by n (o.name == n) refl) waits h)
      where
        by : (n : ℕ) (b : Bool) → (o.name == n) ≡ b → requested cs n ≡ requested (without g cs) n
        by n true is = let never : requested cs n ≡ None = ap (requested cs) (sym (eqb-true o.name n is)) ∙ no_request
            (requested cs o.name) (queued p cs o.name) (subst (λ x. RequestAgrees x (requested cs o.name) (queued p cs o.name)) none (h.stands.reports o.name)) in
            never ∙ sym (unrequested cs g n no_duplicates never)
        by n false other = sym (requested_without cs g o n no_duplicates holds other)

    delisted : Removes old new o.name → SameRequests p new (without g cs)
    delisted removes = record {
      stands = status_is_determined new (asked_anew o.name None (requested cs)) (requested (without g cs))
          (queued p cs) (queued p (without g cs)) (λ n. sym (asked_gone cs g o no_duplicates holds n)) waits (removes.stands (requested cs) (queued p cs) h.stands);
      limit = removes.limit ∙ h.limit;
    }

-- ---- another request of a cell changes no word and no count

pub words_asked : (cs : List Cell) (n : ℕ) (r : Option Request) (k w : ℕ) → word_field (set_request n r cs) k w ≡ word_field cs k w
words_asked [] n r k w = refl
words_asked (c ∷ cs) n r k w = ap (λ x. cond (c.object.name == k) (at (pos 0) c.words w) x) (words_asked cs n r k w)

-- so the same cells live
pub cells_asked : (p : Image) (h : Heap) (cs : List Cell) (n : ℕ) (r : Option Request) → SameCells p h cs → SameCells p h (set_request n r cs)
cells_asked p h cs n r = cells_as p h cs (set_request n r cs) (λ k. ap thing_of ((request_updated_alike cs
    (Inside (record { name = n; thing = Message }) (Elsewhere Root)) r).named_so k)) (λ k w small. words_asked cs n r k w) (count_asked cs n r)
