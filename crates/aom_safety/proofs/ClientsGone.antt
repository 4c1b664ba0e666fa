-- A server that goes lets go of all clients that are at it, and what is kept of all others stays.
use Rattle.std.proofs.lemmas.Bool.Decides.{nat_tests}
use Rattle.std.proofs.Common.{[], Bool, List, None, Option, Some, ap, cond, false, refl, subst, sym, true, ℕ, ◌==◌, ◌∙◌, ◌∷◌, ◌≡◌, ◌<◌, ◌≤◌, arith}
use Rattle.std.proofs.lemmas.Bool.{eq-eqb, eqb-true, ne_eqb, true≢false}
use Rattle.std.specs.List.{list_any}
use Rattle.std.specs.Prelude.{is_some, ◌||◌}
use Rattle.aom_image.specs.Image.{Image}
use Rattle.aom_clients.specs.Nodes.{is_connecting_at, is_leaving, is_open_at}
use Rattle.aom_clients.specs.Table.{after_server_destroyed, server_of}
use Rattle.aom_clients.specs.declared.client.Client.{Client}
use Rattle.aom_clients.specs.declared.client.Client.TheVariants.{Unconnected}
use Rattle.aom_safety.proofs.SemanticsLemmas.{cond_same, held_kept, named_kept, read_kept, requests, same_place-true, same_place_comm, same_place_refl}
use Rattle.aom_safety.proofs.SemanticsLemmas.{slot_release}
use Rattle.aom_safety.proofs.ClientsFit.{connecting_only, leaving_only}
use Rattle.aom_safety.proofs.ClientsSteady.{carried_filtered_cells, fit_eased, quiet_waiting, sender_stays}
use Rattle.aom_safety.proofs.Queues.{client_here, client_there, none_passes}
use Rattle.aom_safety.proofs.FilteredCells.{a_cell_of, cell_in, cell_lives, cell_name, cell_of, cell_owner}
use Rattle.aom_safety.proofs.FilteredCells.{cell_placed, held_cell, service_gone, filtered_cells, clients_filtered_cells}
use Rattle.aom_safety.proofs.Sources.{has_sender, served_as, sources_as, sources_at, slot_released_one, slot_released_some}
use Rattle.aom_safety.proofs.SlotRelease.{each_slot_released_alike, service_slot_released}
use Rattle.aom_semantics.specs.Clients.{client_at, each_slot_released, queue_ended, sessions_ended, most_of}
use Rattle.aom_safety.specs.Kept.{ClientsFit, EntryFits, QueueFits, ConnectKept, StageKept, is_close_of, is_connect_of, is_message_of}
use Rattle.aom_semantics.specs.Places.{Asked, Cell, Close_of, Connect_of, Elsewhere, In_service, Message_of, Object, Place, Queued}
use Rattle.aom_semantics.specs.Places.{Sender, NoDuplicates, held, named, same_place, service_of, unserved, without, requested}
use Rattle.aom_semantics.specs.State.{Accept_left, Accepts, Disconnects, Stage}
use Rattle.aom_semantics.specs.Servers.{all_slot_released, has_session, is_from, is_queue_of, is_server, slot_released, without_queue, sessions_in_use}
use Rattle.aom_semantics.specs.Requests.{thing_kind}
use Rattle.aom_safety.proofs.OwnedPlaced.{owned_objects_same}

-- ---- what the clients are at

pub queue_ended_at : (q : List Asked) (clients : List Client) (c : ℕ) →
    client_at (queue_ended q clients) c ≡ cond (list_any (is_connect_of c) q) Unconnected (client_at clients c)
queue_ended_at [] clients c = refl
queue_ended_at (Message_of d m ∷ es) clients c = queue_ended_at es clients c
queue_ended_at (Close_of d ∷ es) clients c = queue_ended_at es clients c
queue_ended_at (Connect_of d ∷ es) clients c =
    grind (arith, nat_tests, queue_ended_at es, eqb-true d c, client_here d Unconnected clients, cond_same, client_there d c Unconnected clients)

gone_twice : (x : Client) → after_server_destroyed (after_server_destroyed x) ≡ after_server_destroyed x
gone_twice x = grind arith

pub sessions_ended_at : (xs : List ℕ) (clients : List Client) (c : ℕ) →
    client_at (sessions_ended xs clients) c ≡ cond (list_any (λ d. d == c) xs) (after_server_destroyed (client_at clients c)) (client_at clients c)
sessions_ended_at [] clients c = refl
sessions_ended_at (d ∷ ds) clients c = grind (arith, nat_tests, sessions_ended_at ds, eqb-true d c, client_here d, gone_twice, cond_same, client_there d c)

gone_alone : (x : Client) → server_of (after_server_destroyed x) ≡ None
gone_alone x = grind arith

pub open_server : (n : ℕ) (x : Client) → is_open_at n x ≡ true → server_of x ≡ Some n
open_server n x e = grind arith

-- who has a session, or may have one, connects to nobody
has_server : (k n : ℕ) (x : Client) → server_of x ≡ Some n → is_connecting_at k x ≡ false
has_server k n x e = grind arith

-- ---- the cells

-- they lose no place and no queue where messages lose their slots
module _ (p : Image) (clients : List Client) (c : ℕ) where
  from_slot_released : (d : ℕ) (x : Option Sender) → is_from d x ≡ true → is_from d (slot_released c x) ≡ true
  from_slot_released d x h = grind arith

  held_slot_released : (cs : List Cell) (q : Place) → held (all_slot_released c cs) q ≡ held cs q
  held_slot_released = held_kept (slot_release c) (λ x. refl)

  named_slot_released : (cs : List Cell) (n : ℕ) → named (all_slot_released c cs) n ≡ named cs n
  named_slot_released = named_kept (slot_release c)

  requested_slot_released : (cs : List Cell) (n : ℕ) → requested (all_slot_released c cs) n ≡ requested cs n
  requested_slot_released = read_kept (slot_release c) requests (λ x. refl)

  pub fit_slot_released : (cs : List Cell) → ClientsFit p clients cs → ClientsFit p clients (all_slot_released c cs)
  fit_slot_released cs fit = record {
    queues = λ n. subst (λ v. QueueFits clients n v.queue) (sym (service_slot_released c cs n)) (fit.queues n);
    sessions = λ n d h. fit.sessions n d (ap (λ v. has_session v d) (sym (service_slot_released c cs n)) ∙ h);
    listed = λ n d h. ap (λ v. has_session v d) (service_slot_released c cs n) ∙ fit.listed n d h;
    servers = grind (arith, nat_tests, service_slot_released c cs, named_slot_released cs);
    names = λ n m o h. fit.names n m o (sym (held_slot_released cs (Elsewhere (Queued n m))) ∙ h);
    senders = λ n d m h. subst (λ v. is_from d v.sender ≡ true) (sym (service_slot_released c cs m))
        (from_slot_released d (service_of cs m).sender (fit.senders n d m (ap (λ v. list_any (is_message_of d m) v.queue) (sym (service_slot_released c cs n)) ∙ h)));
    sources = sources_as cs (all_slot_released c cs) sources (λ o h. sym (named_slot_released cs o.name) ∙ h) fit.sources;
    served = served_as cs (all_slot_released c cs) sent (λ o h. sym (held_slot_released cs (Elsewhere In_service)) ∙ h) fit.served;
    owned_chain = λ o h. subst (λ v. sessions_in_use v ≤ most_of (thing_kind p o.thing)) (sym (service_slot_released c cs o.name))
        (fit.owned_chain o (sym (named_slot_released cs o.name) ∙ h));
    enlisted = λ o h e. subst (λ v. (v.queue ≡ []) × (v.sessions ≡ []))
        (sym (service_slot_released c cs o.name)) (fit.enlisted o (sym (named_slot_released cs o.name) ∙ h) (sym (requested_slot_released cs o.name) ∙ e));
  }
    where
      sent : (n : ℕ) → has_sender (all_slot_released c cs) n ≡ has_sender cs n
      sent n = ap (λ v. is_some v.sender) (service_slot_released c cs n) ∙ slot_released_some c (service_of cs n).sender

      sources : (n : ℕ) → sources_at (all_slot_released c cs) n ≡ sources_at cs n
      sources n = grind (arith, nat_tests, service_slot_released c cs n, slot_released_one c)

pub fit_each_slot_released : (p : Image) (clients : List Client) (xs : List ℕ) (cs : List Cell) → ClientsFit p clients cs → ClientsFit p clients (each_slot_released xs cs)
fit_each_slot_released p clients [] cs fit = fit
fit_each_slot_released p clients (c ∷ xs) cs fit = fit_each_slot_released p clients xs (all_slot_released c cs) (fit_slot_released p clients c cs fit)

-- what goes with it
abbrev pub goes_with : ℕ → Place → Cell → Bool
goes_with n g c = is_queue_of n c.owner || same_place c.owner g

pub gone_so : (n : ℕ) (g : Place) (cs : List Cell) → without g (without_queue n cs) ≡ filtered_cells (goes_with n g) (λ c. c.service) cs
gone_so n g [] = refl
gone_so n g (c ∷ cs) = go (is_queue_of n c.owner) (gone_so n g cs)
  where
    go : (b : Bool) → without g (without_queue n cs) ≡ filtered_cells (goes_with n g) (λ c. c.service) cs →
        without g (cond b (without_queue n cs) (c ∷ without_queue n cs))
        ≡ cond (b || same_place c.owner g) (filtered_cells (goes_with n g) (λ c. c.service) cs) (c ∷ filtered_cells (goes_with n g) (λ c. c.service) cs)
    go true e = e
    go false e = ap (λ l. cond (same_place c.owner g) l (c ∷ l)) e

-- waiting: what is in a queue is no server; queued: what is asked of a server stands in its queue
module _ (p : Image) (clients : List Client) (cs : List Cell) (no_duplicates : NoDuplicates cs)
    (fit : ClientsFit p clients cs) (o : Object) (g : Place) (there : held cs g ≡ Some o) (apart : (n m : ℕ) → same_place g (Elsewhere (Queued n m)) ≡ false)
    (waiting : (n m : ℕ) (x : Object) → held cs (Elsewhere (Queued n m)) ≡ Some x → is_server p x.thing ≡ false)
    (queued : (n c m : ℕ) → list_any (is_message_of c m) (service_of cs n).queue ≡ true → (x : Object) × (held cs (Elsewhere (Queued n m)) ≡ Some x)) where
  abbrev drops : Cell → Bool
  drops = goes_with o.name g

  abbrev left : List Cell
  left = filtered_cells drops (λ c. c.service) cs

  abbrev then : List Client
  then = sessions_ended (service_of cs o.name).sessions (queue_ended (service_of cs o.name).queue clients)

  -- a client that neither connects to it nor has a session with it is at what it was
  other_client : (d : ℕ) → is_connecting_at o.name (client_at clients d) ≡ false → has_session (service_of cs o.name) d ≡ false →
      client_at then d ≡ client_at clients d
  other_client d connects has = grind (arith, nat_tests, sessions_ended_at, queue_ended_at, none_passes)

  no_session : (n d : ℕ) → (o.name == n) ≡ false → server_of (client_at clients d) ≡ Some n → has_session (service_of cs o.name) d ≡ false
  no_session n d other e = grind (arith, nat_tests, eq-eqb o.name n)

  -- of another server
  with_session : (n d : ℕ) → (o.name == n) ≡ false → server_of (client_at clients d) ≡ Some n → client_at then d ≡ client_at clients d
  with_session n d other e = other_client d (has_server o.name n (client_at clients d) e) (no_session n d other e)

  with_connect : (n d : ℕ) → (o.name == n) ≡ false → is_connecting_at n (client_at clients d) ≡ true → client_at then d ≡ client_at clients d
  with_connect n d other e = grind (arith, nat_tests, other_client d, eq-eqb o.name n, connecting_only n o.name)

  queue_kept : (n : ℕ) → (o.name == n) ≡ false → (es : List Asked) → QueueFits clients n es → QueueFits then n es
  queue_kept n other [] fits = tt
  queue_kept n other (e ∷ es) fits = ((entry e fits.0.0, fits.0.1), queue_kept n other es fits.1)
    where
      entry : (e : Asked) → EntryFits clients n e → EntryFits then n e
      entry y f = grind (arith, nat_tests, with_connect n, with_session n, open_server n, leaving_only n n)

  -- ---- what clients have at the cells that stay

  o_cell : (x : Cell) × (cell_in cs g ≡ Some x) × (x.object ≡ o)
  o_cell = a_cell_of (cell_in cs g) o (sym (held_cell cs g) ∙ there)

  -- what goes is the server, or a message that waits in its queue
  what_goes : (n : ℕ) (x : Cell) → cell_of cs n ≡ Some x → drops x ≡ true → ((o.name == n) ≡ false) → (x.service.queue ≡ []) × (x.service.sessions ≡ [])
  what_goes n x e goes other = go x.owner refl goes
    where
      in_place : cell_in cs x.owner ≡ Some x
      in_place = cell_placed cs n x no_duplicates e

      name : x.object.name ≡ n
      name = cell_name cs n x e

      not_it : same_place x.owner g ≡ true → ⊥
      not_it at =
          let one : Some x ≡ Some o_cell.0 = sym in_place ∙ ap (λ q. cell_in cs q) (same_place-true x.owner g at) ∙ o_cell.1 in
          let equal : x ≡ o_cell.0 = cc in
          true≢false (sym (eq-eqb o.name n (ap (λ y. y.name) (sym o_cell.2) ∙ ap (λ y. y.object.name) (sym equal) ∙ name)) ∙ other)

      go : (q : Place) → x.owner ≡ q → (is_queue_of o.name x.owner || same_place x.owner g) ≡ true → (x.service.queue ≡ []) × (x.service.sessions ≡ [])
      go (Elsewhere (Queued k m)) at h = quiet_waiting p clients cs no_duplicates fit waiting n x e k m at
      go q at h = absurd (not_it (ap (λ r. is_queue_of o.name r || same_place x.owner g) (sym at) ∙ h))

  service_left : (n : ℕ) → (o.name == n) ≡ false →
      ((service_of left n).queue ≡ (service_of cs n).queue) × ((service_of left n).sessions ≡ (service_of cs n).sessions)
  service_left n other = clients_filtered_cells drops cs no_duplicates n (λ x e goes. what_goes n x e goes other)

  or_right : (b : Bool) → (b || true) ≡ true
  or_right y = grind arith

  service_none : service_of left o.name ≡ unserved
  service_none = grind (
    arith,
    nat_tests,
    cell_of cs o_cell.0.object.name,
    cell_lives cs g o_cell.0 no_duplicates o_cell.1,
    cell_of cs o.name,
    cell_of cs,
    cell_owner cs g o_cell.0 o_cell.1,
    same_place_refl g,
    service_gone,
    or_right,
  )

  -- a message in the queue of another server stays
  sender_left : (n d m : ℕ) → (o.name == n) ≡ false → list_any (is_message_of d m) (service_of cs n).queue ≡ true → is_from d (service_of left m).sender ≡ true
  sender_left n d m other h = sender_stays p clients cs no_duplicates fit drops queued n d m stays h
    where
      stays : (y : Cell) → y.owner ≡ Elsewhere (Queued n m) → drops y ≡ false
      stays y owner = grind (arith, nat_tests, ne_eqb n o.name, eq-eqb o.name n, same_place_comm (Elsewhere (Queued n m)) g)

  has_left : (n d : ℕ) → (o.name == n) ≡ false → has_session (service_of left n) d ≡ has_session (service_of cs n) d
  has_left n d other = ap (λ xs. list_any (λ k. k == d) xs) (service_left n other).1

  sessions_left : (n d : ℕ) → has_session (service_of left n) d ≡ true → server_of (client_at then d) ≡ Some n
  sessions_left n d h = grind (arith, nat_tests, eqb-true o.name n, service_none, has_left n d, with_session n d)

  listed_left : (n d : ℕ) → server_of (client_at then d) ≡ Some n → has_session (service_of left n) d ≡ true
  listed_left n d h = grind (arith, nat_tests, sessions_ended_at, queue_ended_at, gone_alone, has_left n d, ne_eqb o.name n)

  fit_left : ClientsFit p then left
  fit_left = fit_eased p clients then cs left fit record {
    carried = carried_filtered_cells drops (λ c. c.service) (λ c. refl) (λ c. refl) cs no_duplicates;
    queues = λ n. queues n (o.name == n) refl;
    sessions = sessions_left;
    listed = listed_left;
    senders = λ n d m h. senders n d m (o.name == n) refl h;
    quiet = λ n none. quiet n none (o.name == n) refl;
    owned_chain = λ n. owned_chain n (o.name == n) refl;
  }
    where
      queues : (n : ℕ) (b : Bool) → (o.name == n) ≡ b → QueueFits then n (service_of left n).queue
      queues n true e = grind (arith, nat_tests, eqb-true o.name n e, service_none)
      queues n false e = subst (λ q. QueueFits then n q) (sym (service_left n e).0) (queue_kept n e (service_of cs n).queue (fit.queues n))

      quiet : (n : ℕ) → ((service_of cs n).queue ≡ []) × ((service_of cs n).sessions ≡ []) → (b : Bool) → (o.name == n) ≡ b →
          ((service_of left n).queue ≡ []) × ((service_of left n).sessions ≡ [])
      quiet n none true e = grind (arith, nat_tests, eqb-true o.name n e, service_none)
      quiet n none false e = ((service_left n e).0 ∙ none.0, (service_left n e).1 ∙ none.1)

      owned_chain : (n : ℕ) (b : Bool) → (o.name == n) ≡ b → sessions_in_use (service_of left n) ≤ sessions_in_use (service_of cs n)
      owned_chain n true e = let none : sessions_in_use (service_of left n) ≡ 0 = ap (λ i. sessions_in_use (service_of left i)) (sym (eqb-true o.name n e))
          ∙ ap sessions_in_use service_none in omega (arith, none)
      owned_chain n false e = let same = owned_objects_same (service_of left n) (service_of cs n) (service_left n e).0 (service_left n e).1 in omega (arith, same)

      senders : (n d m : ℕ) (b : Bool) → (o.name == n) ≡ b → list_any (is_message_of d m) (service_of left n).queue ≡ true →
          is_from d (service_of left m).sender ≡ true
      senders n d m true e h = grind (arith, nat_tests, eqb-true o.name n e, service_none)
      senders n d m false e h = sender_left n d m e (ap (λ q. list_any (is_message_of d m) q) (sym (service_left n e).0) ∙ h)

  -- with it and its queue gone
  pub fit_gone : ClientsFit p then (each_slot_released (service_of cs o.name).sessions (without g (without_queue o.name cs)))
  fit_gone = fit_each_slot_released p then (service_of cs o.name).sessions (without g (without_queue o.name cs))
      (subst (λ l. ClientsFit p then l) (sym (gone_so o.name g cs)) fit_left)

  -- a stage of the dispatch of another server stays kept
  pub stage_gone : (x : Object) (c : ℕ) (stage : Stage) → (o.name == x.name) ≡ false → StageKept p clients cs x c stage →
      StageKept p then (each_slot_released (service_of cs o.name).sessions (without g (without_queue o.name cs))) x c stage
  stage_gone x c stage other k = at stage k
    where
      n : ℕ
      n = x.name

      sessions : (service_of (each_slot_released (service_of cs o.name).sessions (without g (without_queue o.name cs))) n).sessions ≡ (service_of cs n).sessions
      sessions = (each_slot_released_alike (service_of cs o.name).sessions (without g (without_queue o.name cs))).sessions_so n
          ∙ ap (λ l. (service_of l n).sessions) (gone_so o.name g cs) ∙ (service_left n other).1

      queue : (service_of (each_slot_released (service_of cs o.name).sessions (without g (without_queue o.name cs))) n).queue ≡ (service_of cs n).queue
      queue = (each_slot_released_alike (service_of cs o.name).sessions (without g (without_queue o.name cs))).queues_so n
          ∙ ap (λ l. (service_of l n).queue) (gone_so o.name g cs) ∙ (service_left n other).0

      connect : ConnectKept p clients cs x c → ConnectKept p then (each_slot_released (service_of cs o.name).sessions (without g (without_queue o.name cs))) x c
      connect k = (
        ap (λ x. is_connecting_at n x) (with_connect n c other k.0) ∙ k.0,
        ap (λ q. list_any (is_connect_of c) q) queue ∙ k.1,
        subst (λ i. i < most_of (thing_kind p x.thing)) (sym (owned_objects_same
            (service_of (each_slot_released (service_of cs o.name).sessions (without g (without_queue o.name cs))) n) (service_of cs n) queue sessions)) k.2,
      )

      at : (stage : Stage) → StageKept p clients cs x c stage →
          StageKept p then (each_slot_released (service_of cs o.name).sessions (without g (without_queue o.name cs))) x c stage
      at Accepts k = connect k
      at (Accept_left code) k = connect k
      at Disconnects k = (ap (λ x. is_leaving n x) (with_session n c other (leaving_only n n (client_at clients c) k.0).2) ∙ k.0, ap (λ q. list_any (is_close_of c) q) queue ∙ k.1)
      at _ k = tt
