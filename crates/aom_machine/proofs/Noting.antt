-- What the schedule hears of the queue of one server: it stands for the requests again where messages alone came and went beside.
use Rattle.std.proofs.lemmas.Bool.Decides.{nat_tests}
use Rattle.std.proofs.Common.{arith, ap, Bool, cond, false, List, None, Option, refl, Some, subst, sym, true, ℕ, ◌==◌, ◌∙◌, ◌≡◌}
use Rattle.std.specs.Prelude.{is_some}
use Rattle.std.proofs.lemmas.Bool.{eqb-true}
use Rattle.aom_machine.proofs.ActiveObjectsLemmas.{queue_same, status_is_determined, reported_server}
use Rattle.aom_active_objects.specs.Agrees.{Active, queue_in, queued}
use Rattle.aom_active_objects.specs.Meanings.{requeued}
use Rattle.aom_clients.specs.Clients as kept
use Rattle.aom_clients.specs.declared.client.Client.{Client}
use Rattle.aom_image.specs.Image.{Image}
use Rattle.aom_scheduler.specs.Requests.{is_server as is_kept_server, request_at}
use Rattle.aom_semantics.specs.Places.{Cell, Object, Request, Service, named, requested, service_of}
use Rattle.aom_semantics.specs.Servers.{has_more}
use Rattle.aom_machine.proofs.MachineStateLemmas.{Beside, NamedBeside}
use Rattle.aom_machine_state.specs.Agrees.{SameRequests}
use Rattle.aom_machine_state.specs.Serving.{SameClients}
use Rattle.aom_machine.specs.Servers.{NotesBy, is_queued}

-- whose queue it is does not hang on what waits there
kind_alone : (p : Image) (o : Option Object) (v w : Service) → is_some (queue_in p o v) ≡ is_some (queue_in p o w)
kind_alone p x v w = grind arith

of_server : (p : Image) (o : Option Object) (v : Service) → is_some (queue_in p o v) ≡ true → queue_in p o v ≡ Some (has_more v.queue)
of_server p x v e = grind arith

of_none : (x : Option Bool) → is_some x ≡ false → x ≡ None
of_none x e = grind arith

-- something waits on both sides
pub waits_alike : (k : kept.ClientsState) (cs : List Cell) (clients : List Client) → SameClients k cs clients → (n : ℕ) → is_queued k n ≡ has_more (service_of cs n).queue
waits_alike k cs clients same n = grind (arith, nat_tests)

module _ (p : Image) (old new : Active) (cs ds : List Cell) (b : Beside cs ds) (same : SameRequests p old cs) (j : ℕ) where
  -- one that is enlisted is the same
  there : (n : ℕ) → is_some (requested cs n) ≡ true → named ds n ≡ named cs n
  there n asked = grind (arith, nat_tests, NamedBeside cs ds n)

  request_of : (n : ℕ) → is_some (requested cs n) ≡ true → (r : Request) × (requested cs n ≡ Some r)
  request_of n asked = grind (arith, nat_tests)

  -- of that name the table tells whether it is a server
  reported : (n : ℕ) → is_some (requested cs n) ≡ true → is_kept_server (request_at old.table n) ≡ is_some (queued p ds n)
  reported n asked = grind (arith, nat_tests, request_of n asked, reported_server old, kind_alone p, there n asked)

  module _ (elsewhere : (n : ℕ) → (j == n) ≡ false → (service_of ds n).queue ≡ (service_of cs n).queue) where
    others : (n : ℕ) → is_some (requested cs n) ≡ true → (j == n) ≡ false → queued p cs n ≡ queued p ds n
    others n asked other = grind (arith, nat_tests, queue_same p, there n asked)

    pub noted_requests : (waits : Bool) → waits ≡ has_more (service_of ds j).queue →
        NotesBy (is_kept_server (request_at old.table j)) old new j waits → SameRequests p new ds
    noted_requests waits is notes = go (is_kept_server (request_at old.table j)) refl notes
      where
        go : (x : Bool) → is_kept_server (request_at old.table j) ≡ x → NotesBy x old new j waits → SameRequests p new ds
        go true serves asks = record {
          stands = status_is_determined new (requested cs) (requested ds) (requeued j (Some waits) (queued p cs)) (queued p ds) (λ n. sym (b.requests n))
              (λ n asked. queues n (ap is_some (sym (b.requests n)) ∙ asked) (j == n) refl) (asks.stands (requested cs) (queued p cs) same.stands);
          limit = asks.limit ∙ same.limit;
        }
          where
            queues : (n : ℕ) → is_some (requested cs n) ≡ true → (y : Bool) → (j == n) ≡ y → cond (j == n) (Some waits) (queued p cs n) ≡ queued p ds n
            queues n asked true e =
                let name = eqb-true j n e in
                let server : is_some (queued p ds n) ≡ true = sym (reported n asked) ∙ ap (λ i. is_kept_server (request_at old.table i)) (sym name) ∙ serves in
                ap (λ y. cond y (Some waits) (queued p cs n)) e ∙ ap Some (is ∙ ap (λ i. has_more (service_of ds i).queue) name)
                ∙ sym (of_server p (named ds n) (service_of ds n) server)
            queues n asked false e = ap (λ y. cond y (Some waits) (queued p cs n)) e ∙ others n asked e
        go false serves still = subst (λ a. SameRequests p a ds) (sym still) (record {
          stands = status_is_determined old (requested cs) (requested ds)
              (queued p cs) (queued p ds) (λ n. sym (b.requests n)) (λ n asked. queues n (ap is_some (sym (b.requests n)) ∙ asked) (j == n) refl) same.stands;
          limit = same.limit;
        })
          where
            queues : (n : ℕ) → is_some (requested cs n) ≡ true → (y : Bool) → (j == n) ≡ y → queued p cs n ≡ queued p ds n
            queues n asked true e =
                let plain : is_some (queued p ds n) ≡ false =
                sym (reported n asked) ∙ ap (λ i. is_kept_server (request_at old.table i)) (sym (eqb-true j n e)) ∙ serves in
                of_none (queued p cs n) (kind_alone p (named cs n) (service_of cs n) (service_of ds n)
                ∙ ap (λ o. is_some (queue_in p o (service_of ds n))) (sym (there n asked)) ∙ plain) ∙ sym (of_none (queued p ds n) plain)
            queues n asked false e = others n asked e
