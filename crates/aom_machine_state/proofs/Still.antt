-- Where cells change of which clients have nothing, what stands for clients goes on: by the cells one after another.
use Rattle.std.proofs.lemmas.Bool.Decides.{nat_tests}
use Rattle.std.proofs.Common.{Bool, List, None, Option, Some, ap, arith, cond, false, refl, sym, true, ℕ, ℤ, ◌<◌, ◌==◌, ◌∙◌, ◌≡◌}
use Rattle.std.proofs.lemmas.Bool.{eqb-true, ne_eqb}
use Rattle.aom_clients.specs.Clients as kept
use Rattle.aom_clients.specs.declared.client.Client.{Client}
use Rattle.aom_image.specs.Image.{Image}
use Rattle.aom_image.specs.declared.method.Thing.{Thing}
use Rattle.aom_machine_state.proofs.SemanticsLemmas.{Alters, asking, detaching, opening, read_kept, same_place-true, services, storing}
use Rattle.aom_machine_state.proofs.SafetyLemmas.{service_moved, service_unnamed}
use Rattle.aom_semantics.specs.Natives.{all_detached, session_updated}
use Rattle.aom_semantics.specs.Places.{Cell, Place as Owner, Request, Service, moved, named, service_of}
use Rattle.aom_semantics.specs.Places.{set_request, set_session, set_word_field, unserved, with_new}
use Rattle.aom_semantics.specs.Servers.{holds_slot, is_queue}
use Rattle.aom_semantics.specs.State.{Receiver}
use Rattle.aom_machine_state.proofs.Serving.{moved_from, owner_moved, owners}
use Rattle.aom_machine_state.specs.Serving.{SameClients, message_name, owner_of, waits_in}

-- clients have the same at all cells, and messages stay where they are
pub record Still (cs cs' : List Cell) : Type 0 where
  pub services : (n : ℕ) → service_of cs' n ≡ service_of cs n
  pub owners : (m : ℕ) → waits_in (owner_of cs' (message_name m)) ≡ waits_in (owner_of cs (message_name m))

-- what clients have at a cell, whether or not it is a token
abbrev pub unreported : Service → Service
unreported v = record v { token = None }

pub still_itself : (cs : List Cell) → Still cs cs
still_itself cs = record { services = λ n. refl; owners = λ m. refl }

-- which messages are tokens is no matter of clients
module _ (s : kept.ClientsState) (cs cs' : List Cell) (clients : List Client) where
  pub same_unreported : ((n : ℕ) → unreported (service_of cs' n) ≡ unreported (service_of cs n)) →
      ((m : ℕ) → waits_in (owner_of cs' (message_name m)) ≡ waits_in (owner_of cs (message_name m))) → SameClients s cs clients → SameClients s cs' clients
  same_unreported services owners same = record {
    at = same.at;
    queues = λ n. same.queues n ∙ ap (λ (v : Service). v.queue) (sym (services n));
    sessions = λ n. same.sessions n ∙ ap (λ (v : Service). v.sessions) (sym (services n));
    senders = λ m. same.senders m ∙ ap (λ (v : Service). v.sender) (sym (services (message_name m)));
    waits = λ m. same.waits m ∙ sym (owners m);
    out = same.out;
    slotted = same.slotted;
    once = same.once;
    silent = λ n c small. ap (λ (v : Service). holds_slot c v.sender) (services n) ∙ same.silent n c small;
    many = same.many;
    lists = same.lists;
  }

  pub same_still : Still cs cs' → SameClients s cs clients → SameClients s cs' clients
  same_still still same = same_unreported (λ n. ap unreported (still.services n)) still.owners same

-- ---- a cell moves

waits_moved : (a b : Owner) → is_queue a ≡ is_queue b → (x : Option Owner) → waits_in (moved_from a b x) ≡ waits_in x
waits_moved a b alike x = grind (arith, nat_tests, same_place-true)

-- from no queue to no queue
pub still_moved : (cs : List Cell) (a b : Owner) → is_queue a ≡ is_queue b → Still cs (moved a b cs)
still_moved cs a b alike = record {
  services = service_moved cs a b;
  owners = λ m. ap waits_in (owner_moved cs a b (message_name m)) ∙ waits_moved a b alike (owner_of cs (message_name m));
}

-- ---- a cell is made

pub still_new : (cs : List Cell) (name : ℕ) (x : Thing) (ws : List ℤ) (owner : Owner) → name < 4096 → named cs name ≡ None → Still cs (with_new name x ws owner cs)
still_new cs name x ws owner small free = record {
  services = λ n. service n (name == n) refl;
  owners = λ m. ap (λ b. waits_in (cond b (Some owner) (owner_of cs (message_name m)))) (apart m);
}
  where
    apart : (m : ℕ) → (name == message_name m) ≡ false
    apart m = ne_eqb name (message_name m) (λ same. absurd (omega (arith, same, small)))

    service : (n : ℕ) (b : Bool) → (name == n) ≡ b → cond b unserved (service_of cs n) ≡ service_of cs n
    service n true e = sym (ap (λ k. service_of cs k) (sym (eqb-true name n e)) ∙ service_unnamed cs name free)
    service n false e = refl

-- ---- what is no matter of clients

-- each cell is another, with the same object, owner and service
pub still_each : {change : List Cell → List Cell} (a : Alters change) →
    ((c : Cell) → (a.each c).owner ≡ c.owner) → ((c : Cell) → (a.each c).service ≡ c.service) → (cs : List Cell) → Still cs (change cs)
still_each a owner service cs =
    record { services = read_kept a services service cs; owners = λ m. ap waits_in (read_kept a owners (λ c. ap (λ q. Some q) (owner c)) cs (message_name m)) }

pub still_requested : (cs : List Cell) (n : ℕ) (r : Option Request) → Still cs (set_request n r cs)
still_requested cs n r = still_each (asking n r) (λ c. refl) (λ c. refl) cs

pub still_sessioned : (cs : List Cell) (n : ℕ) (is_open : Bool) → Still cs (set_session n is_open cs)
still_sessioned cs n is_open = still_each (opening n is_open) (λ c. refl) (λ c. refl) cs

pub still_written : (cs : List Cell) (n w : ℕ) (v : ℤ) → Still cs (set_word_field n w v cs)
still_written cs n w v = still_each (storing n w v) (λ c. refl) (λ c. refl) cs

-- a native is killed
pub still_detached : (p : Image) (native : ℕ) (cs : List Cell) → Still cs (all_detached p native cs)
still_detached p native cs = still_each (detaching p native) (λ c. refl) (λ c. refl) cs

-- the session of what a method works on is another
pub still_opened : (cs : List Cell) (receiver : Receiver) (is_open : Bool) → Still cs (session_updated cs receiver is_open)
still_opened cs x is_open = grind (arith, nat_tests, still_itself cs, still_sessioned cs)
