-- What stands for clients goes on through each part of a service, and through the going of a cell: with the premises that a well-typed state whose clients are
-- kept gives.
use Rattle.std.proofs.lemmas.Bool.Decides.{nat_tests}
use Rattle.std.proofs.Common.{List, None, Some, [], ap, arith, cond, false, length, refl, subst, sym, true, ℕ, ◌<◌, ◌==◌, ◌∙◌, ◌∷◌, ◌≡◌}
use Rattle.std.specs.List.{list_any}
use Rattle.std.specs.Prelude.{◌||◌}
use Rattle.std.proofs.lemmas.Bool.{eq-eqb, eqb-true}
use Rattle.std.proofs.lemmas.List.{get_or_past, length-set}
use Rattle.aom_clients.specs.Clients as kept
use Rattle.aom_clients.specs.Nodes.{is_connecting_at}
use Rattle.aom_clients.specs.Table.{is_queued, released}
use Rattle.aom_clients.specs.declared.client.Client.{Client}
use Rattle.aom_clients.specs.declared.client.Client.TheVariants.{Connecting, Dead, Unconnected}
use Rattle.aom_clients.specs.declared.entry.QueueEntry.{QueueEntry}
use Rattle.aom_clients.specs.declared.entry.QueueEntry.TheVariants.{Message}
use Rattle.aom_clients.specs.declared.place.MessagePlace.{MessagePlace}
use Rattle.aom_clients.specs.declared.place.MessagePlace.TheVariants.{Queued}
use Rattle.aom_image.specs.Image.{Image}
use Rattle.aom_typing_rules.specs.Typing.{Typing}
use Rattle.aom_machine_state.proofs.SemanticsLemmas.{held_lives}
use Rattle.aom_machine_state.proofs.SafetyLemmas.{service_moved}
use Rattle.aom_semantics.specs.Clients.{at_parting, client_at, each_slot_released, queue_ended, sessions_ended, with_client}
use Rattle.aom_safety.specs.Kept.{ClientsFit, StageKept}
use Rattle.aom_safety.specs.Laws.{IsWired}
use Rattle.aom_semantics.specs.Places.{Cell, Elsewhere, In_service, Object, Place as Owner, Queued as Waits_at, Service}
use Rattle.aom_semantics.specs.Places.{held, moved, named, same_place, service_of, set_service, without}
use Rattle.aom_semantics.specs.Servers.{is_message, is_queue, is_server, parted, reserved, taken_first, without_queue}
use Rattle.aom_semantics.specs.State.{Accepts, Disconnects, OwnedObject, State}
use Rattle.aom_safety.specs.WellTyped.{WellTyped}
use Rattle.aom_machine_state.proofs.Completing.{same_completed}
use Rattle.aom_machine_state.proofs.Departing.{at_set_or, is_at}
use Rattle.aom_machine_state.proofs.Premises.{asked_there, closes_nowhere, connecting_below, connects_nowhere, goes_there, leaving_below, messages_wait}
use Rattle.aom_machine_state.proofs.Premises.{owned_nowhere, owner_waiting, queue_empty, session_alone, waiting_there, waits_apart}
use Rattle.aom_machine_state.proofs.Serving.{listed_as, same_parted, same_served, same_taken, same_unopened}
use Rattle.aom_machine_state.proofs.Reclaiming.{same_reclaimed}
use Rattle.aom_machine_state.proofs.Withdrawing.{AllWait}
use Rattle.aom_machine_state.specs.Serving.{AreSized, SameClients, message_name, sessionless}

-- ---- clients on both sides

pub connecting_here : (k : kept.ClientsState) (cs : List Cell) (clients : List Client) →
    SameClients k cs clients → (n c : ℕ) → is_connecting_at n (client_at clients c) ≡ true → (slots : ℕ) × (kept.client_at k c ≡ Connecting n slots)
connecting_here k cs clients same n c at = grind (arith, nat_tests)

released_sessionless : (x : Client) → sessionless (released x) ≡ sessionless x
released_sessionless x = grind arith

-- ---- a session is at hand to go

pub same_released : (k : kept.ClientsState) (cs : List Cell) (clients : List Client) → SameClients k cs clients → (c : ℕ) → SameClients (kept.after_release c k) cs clients
same_released k cs clients same c = grind (
  arith,
  nat_tests,
  listed_as k cs clients clients,
  length-set k.clients c,
  at_set_or Unconnected k.clients c,
  get_or_past k.clients c Unconnected,
  released_sessionless,
  eqb-true c,
)

-- ---- where cells move, and what clients have at one changes

set_moved : (cs : List Cell) (a b : Owner) (n : ℕ) (v : Service) → set_service n v (moved a b cs) ≡ moved a b (set_service n v cs)
set_moved [] a b n v = refl
set_moved (c ∷ cs) a b n v =
    ap (λ l. record c { owner = cond (same_place c.owner a) b c.owner; service = cond (c.object.name == n) v c.service } ∷ l) (set_moved cs a b n v)

pub reserved_moved : (f : Service → Service) (cs : List Cell) (a b : Owner) (n : ℕ) → reserved f n (moved a b cs) ≡ moved a b (reserved f n cs)
reserved_moved f cs a b n = ap (λ v. set_service n (f v) (moved a b cs)) (service_moved cs a b n) ∙ set_moved cs a b n (f (service_of cs n))

-- ---- all parts of a service

module _ (p : Image) (t : Typing) (wired : IsWired p) (s : State) (w : WellTyped p t s)
    (fit : ClientsFit p s.clients s.cells) (k : kept.ClientsState) (same : SameClients k s.cells s.clients) (cells : ℕ) (sized : AreSized cells k) where
  -- `accept` gave a session
  module _ (x : OwnedObject) (c : ℕ) (lives : named s.cells x.object.name ≡ Some x.object) (below : x.object.name < cells)
      (kept_so : StageKept p s.clients s.cells x.object c Accepts) where
    session_room : x.object.name < length k.sessions
    session_room = subst (λ n. x.object.name < n) (sym sized.sessions) below

    -- or left
    pub same_unaccepted : SameClients (kept.after_connected c None k) s.cells (with_client c Unconnected s.clients)
    same_unaccepted = grind (
      arith,
      nat_tests,
      connecting_here k s.cells s.clients same x.object.name c kept_so.0,
      connects_nowhere p s.clients s.cells fit x.object.name c kept_so.0 kept_so.1,
      same_unopened k s.cells s.clients same x.object lives c (connecting_below s.cells s.clients k same c x.object.name kept_so.0),
      connecting_below s.cells s.clients k same c x.object.name kept_so.0,
      session_room,
    )

  -- a close is served
  module _ (x : OwnedObject) (c : ℕ) (lives : named s.cells x.object.name ≡ Some x.object) (kept_so : StageKept p s.clients s.cells x.object c Disconnects) where
    parting_as : (next : Client) → sessionless next ≡ next →
        SameClients (kept.parted c next k) (reserved (parted c) x.object.name s.cells) (with_client c next s.clients)
    parting_as next plain = same_parted k s.cells s.clients same x.object lives c (leaving_below s.cells s.clients k same c x.object.name kept_so.0) next plain
        (closes_nowhere p s.clients s.cells fit x.object.name c kept_so.0 kept_so.1) (session_alone p s.clients s.cells fit x.object.name c kept_so.0)

    pub same_closed : SameClients (kept.after_closed c k) (reserved (parted c) x.object.name s.cells) (with_client c (at_parting (client_at s.clients c)) s.clients)
    same_closed = grind (arith, nat_tests, parting_as Unconnected, parting_as Dead)

  -- a message is completed that was taken
  pub same_replied : (g : Owner) (o : Object) (m : ℕ) → held s.cells g ≡ Some o → is_queue g ≡ false →
      is_server p o.thing ≡ false → o.name ≡ message_name m → m < 1024 → SameClients (kept.after_complete m k) (without g s.cells) s.clients
  same_replied g o m there apart plain name below = same_completed k s.cells s.clients same w.good.no_duplicates m
      (subst (λ n. m < n) (sym sized.places) below) g o there name (subst (λ n. ((service_of s.cells n).queue ≡ []) × ((service_of s.cells n).sessions ≡ []))
      name (fit.servers o (held_lives s.cells g o w.good.no_duplicates there) plain))
      (λ n. subst (λ i. list_any (is_message i) (service_of s.cells n).queue ≡ false) name (owned_nowhere p t wired s w s.clients fit g o there apart n))

  -- a cell goes, a server with all that clients have at it
  pub same_gone : (g : Owner) (o : Object) → held s.cells g ≡ Some o → is_queue g ≡ false → o.name < 4096 → o.name < cells →
      SameClients (kept.server_gone o.name k) (each_slot_released (service_of s.cells o.name).sessions (without g (without_queue o.name s.cells)))
      (sessions_ended (service_of s.cells o.name).sessions (queue_ended (service_of s.cells o.name).queue s.clients))
  same_gone g o there apart small below = same_reclaimed k s.cells s.clients same w.good.no_duplicates o g there apart small
      (subst (λ n. o.name < n) (sym sized.queues) below) (subst (λ n. o.name < n) (sym sized.sessions) below) (queue_empty p t wired s w s.clients fit)
      (asked_there p t wired s w s.clients fit o.name) (waiting_there p t wired s w s.clients fit) (goes_there p t wired s w s.clients fit k same o.name)

  -- ---- the first of a queue is served

  module _ (o : Object) (lives : named s.cells o.name ≡ Some o) (below : o.name < cells) where
    queue_room : o.name < length k.queues
    queue_room = subst (λ n. o.name < n) (sym sized.queues) below

    first_so : (e : QueueEntry) (es : List QueueEntry) → kept.queue_at k o.name ≡ e ∷ es → kept.after_next o.name k ≡ kept.taking e (kept.with_queue o.name es k)
    first_so e es at = ap (λ l. kept.taken o.name l k) at

    -- a connect or a close
    pub same_next : (e : QueueEntry) (es : List QueueEntry) →
        kept.queue_at k o.name ≡ e ∷ es → ((m : ℕ) → e ≡ Message m → ⊥) → SameClients (kept.after_next o.name k) (reserved taken_first o.name s.cells) s.clients
    same_next e es at other = grind (arith, nat_tests, first_so e es at, same_taken k s.cells s.clients same o lives 0, queue_room)

    -- a message, which goes into service
    pub same_attended : (m : ℕ) (es : List QueueEntry) → kept.queue_at k o.name ≡ Message m ∷ es → m < 1024 → SameClients (kept.after_next o.name k)
        (moved (Elsewhere (Waits_at o.name (message_name m))) (Elsewhere In_service) (reserved taken_first o.name s.cells)) s.clients
    same_attended m es at small = subst (λ n. SameClients n (moved (Elsewhere (Waits_at o.name (message_name m)))
        (Elsewhere In_service) (reserved taken_first o.name s.cells)) s.clients) (sym (first_so (Message m) es at))
        (same_served k s.cells s.clients same o lives 0 (omega arith) m es at queue_room (subst (λ n. m < n) (sym sized.places) small) who.0 who.1
        (owner_waiting p t wired s w s.clients fit k same o.name m first) (waits_apart p t wired s w s.clients fit k same o.name m))
      where
        first : list_any (is_at m) (kept.queue_at k o.name) ≡ true
        first = ap (λ l. list_any (is_at m) l) at ∙ ap (λ b. b || list_any (is_at m) es) (eq-eqb m m refl)

        waiting : is_queued (kept.place_at k m) ≡ true
        waiting = (subst (λ l. AllWait k.places l) at (messages_wait p t wired s w s.clients fit k same o.name)).0

        who : (by : ℕ) × (kept.place_at k m ≡ Queued by)
        who = go (kept.place_at k m) refl waiting
          where
            go : (x : MessagePlace) → kept.place_at k m ≡ x → is_queued x ≡ true → (by : ℕ) × (kept.place_at k m ≡ Queued by)
            go x e h = grind arith
