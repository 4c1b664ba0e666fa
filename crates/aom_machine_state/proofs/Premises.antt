-- What a well-typed state whose clients are kept says of queues, of messages and of the clients of stages: by what each place may own, and by what fits.
use Rattle.std.proofs.lemmas.Bool.Decides.{nat_tests}
use Rattle.std.proofs.Common.{Bool, List, None, Option, Some, [], ap, arith, false, refl, slice_index_or, sym, true, ℕ, ◌&&◌, ◌<◌, ◌==◌, ◌∙◌, ◌∷◌, ◌≡◌}
use Rattle.std.specs.List.{list_any}
use Rattle.std.specs.Prelude.{IsSome, ◌||◌}
use Rattle.std.proofs.lemmas.Bool.{cases_lt, eq-eqb, eqb-true, false≢true}
use Rattle.std.proofs.lemmas.List.{get_or_past}
use Rattle.aom_clients.specs.Clients as kept
use Rattle.aom_clients.specs.Nodes.{is_connecting_at, is_leaving, is_open_at}
use Rattle.aom_clients.specs.Table.{completion, is_queued, server_of}
use Rattle.aom_clients.specs.declared.client.Client.{Client}
use Rattle.aom_clients.specs.declared.client.Client.TheVariants.{Unconnected}
use Rattle.aom_clients.specs.declared.entry.QueueEntry.{QueueEntry}
use Rattle.aom_clients.specs.declared.entry.QueueEntry.TheVariants.{Close, Connect, Message}
use Rattle.aom_clients.specs.declared.place.MessagePlace.{MessagePlace}
use Rattle.aom_clients.specs.declared.place.MessagePlace.TheVariants.{Free, Queued}
use Rattle.aom_image.specs.Image.{Image}
use Rattle.aom_typing_rules.specs.Typing.{Typing}
use Rattle.aom_machine_state.proofs.SafetyLemmas.{a_cell_of, cell_in, cell_lives, cell_name, cell_of, cell_owner, cell_placed, has_sender, held_cell, in_queue}
use Rattle.aom_machine_state.proofs.SafetyLemmas.{leaving_only, named_cell, nobody, none_named, none_passes, object_in, open_server, queued_well, service_cell}
use Rattle.aom_machine_state.proofs.SafetyLemmas.{service_in, waiting_well}
use Rattle.aom_machine_state.proofs.SemanticsLemmas.{one_place, same_place-true}
use Rattle.aom_semantics.specs.Clients.{client_at}
use Rattle.aom_safety.specs.Kept.{ClientsFit, EntryFits, QueueFits, is_close_of, is_connect_of, is_message_of}
use Rattle.aom_safety.specs.Laws.{IsWired}
use Rattle.aom_semantics.specs.Places.{Asked, Cell, Close_of, Connect_of, Elsewhere, Message_of, Object, Place as Owner}
use Rattle.aom_semantics.specs.Places.{Queued as Waits_at, Sender, Service, NoDuplicates, held, named, same_place, service_of}
use Rattle.aom_semantics.specs.Servers.{has_message, is_among, is_from, is_message, is_queue}
use Rattle.aom_semantics.specs.State.{State}
use Rattle.aom_safety.specs.WellTyped.{WellTyped}
use Rattle.aom_machine_state.proofs.Departing.{is_at}
use Rattle.aom_machine_state.proofs.Serving.{taken_sent}
use Rattle.aom_machine_state.proofs.Reclaiming.{asks_message}
use Rattle.aom_machine_state.proofs.Withdrawing.{AllWait, owner_cell, owner_in, queue_owner}
use Rattle.aom_machine_state.specs.Serving.{SameClients, holds, message_name, owner_of, sent_by, waits_in}

-- ---- cells by their owners

pub owner_held : (cs : List Cell) → NoDuplicates cs → (q : Owner) (o : Object) → held cs q ≡ Some o → owner_of cs o.name ≡ Some q
owner_held cs no_duplicates q o e = grind (
  arith,
  nat_tests,
  a_cell_of (cell_in cs q) o,
  cell_in cs q,
  held_cell cs q,
  cell_lives cs q,
  owner_cell cs o.name,
  owner_in,
  cell_of cs,
  cell_owner cs q,
)

pub held_owner : (cs : List Cell) → NoDuplicates cs → (n : ℕ) (q : Owner) → owner_of cs n ≡ Some q → (x : Object) × (held cs q ≡ Some x) × (x.name ≡ n)
held_owner cs no_duplicates n q e = grind (arith, nat_tests, cell_of cs n, owner_cell cs n, owner_in, held_cell, object_in, cell_placed, cell_name)

-- ---- what is asked for, and by whom

pub asking : (m : ℕ) (q : List Asked) → list_any (λ e. is_message m e) q ≡ true → (c : ℕ) × (list_any (is_message_of c m) q ≡ true)
asking m [] h = cc
asking m (Connect_of d ∷ q) h = asking m q h
asking m (Close_of d ∷ q) h = asking m q h
asking m (Message_of d k ∷ q) h = go (k == m) refl h (asking m q)
  where
    go : (b : Bool) → (k == m) ≡ b → (b || list_any (λ e. is_message m e) q) ≡ true → (list_any (λ e. is_message m e) q ≡ true →
        (c : ℕ) × (list_any (is_message_of c m) q ≡ true)) → (c : ℕ) × ((((d == c) && (k == m)) || list_any (is_message_of c m) q) ≡ true)
    go true e h rest = (d, ap (λ x. (x && (k == m)) || list_any (is_message_of d m) q) (eq-eqb d d refl) ∙ ap (λ b. b || list_any (is_message_of d m) q) e)
    go false e h rest = let r = rest h in (r.0, later ((d == r.0) && (k == m)) (list_any (is_message_of r.0 m) q) r.1)
      where
        later : (a b : Bool) → b ≡ true → (a || b) ≡ true
        later true b h = refl
        later false b h = h

-- its client is open there
opens : (clients : List Client) (n c m : ℕ) (q : List Asked) → QueueFits clients n q → list_any (is_message_of c m) q ≡ true →
    is_open_at n (client_at clients c) ≡ true
opens clients n c m [] fits h = cc
opens clients n c m (Message_of d k ∷ q) fits h = grind (arith, nat_tests, opens clients n c m q fits.1, eqb-true d c)
opens clients n c m (_ ∷ q) fits h = opens clients n c m q fits.1 h

-- all messages of a queue wait where each does
waits_each : (places : List MessagePlace) (es : List QueueEntry) →
    ((j : ℕ) → list_any (is_at j) es ≡ true → is_queued (slice_index_or places j Free) ≡ true) → AllWait places es
waits_each places [] h = tt
waits_each places (Connect c ∷ es) h = waits_each places es h
waits_each places (Close c ∷ es) h = waits_each places es h
waits_each places (Message k ∷ es) h = grind (arith, nat_tests, is_at k, eq-eqb k k, waits_each places es, is_at)

-- ---- clients of stages

module _ (p : Image) (clients : List Client) (cs : List Cell) (fit : ClientsFit p clients cs) (k c : ℕ) where
  -- what is asked at one server alone, and there no more, is asked nowhere
  asks_nowhere : (asks : Asked → Bool) → ((n : ℕ) → (k == n) ≡ false → (e : Asked) → asks e ≡ true → EntryFits clients n e → ⊥) →
      list_any asks (service_of cs k).queue ≡ false → (n : ℕ) → list_any asks (service_of cs n).queue ≡ false
  asks_nowhere asks never none n = grind (arith, nat_tests, eqb-true k n, none_passes asks clients n)

  -- so with a client that connects to it, and with one that closes
  pub connects_nowhere : is_connecting_at k (client_at clients c) ≡ true →
      list_any (is_connect_of c) (service_of cs k).queue ≡ false → (n : ℕ) → list_any (is_connect_of c) (service_of cs n).queue ≡ false
  connects_nowhere at = grind (arith, nat_tests, asks_nowhere)

  pub closes_nowhere : is_leaving k (client_at clients c) ≡ true → list_any (is_close_of c) (service_of cs k).queue ≡ false → (n : ℕ) →
      list_any (is_close_of c) (service_of cs n).queue ≡ false
  closes_nowhere at = grind (arith, nat_tests, asks_nowhere)

  -- whose session is with that server alone
  pub session_alone : is_leaving k (client_at clients c) ≡ true → (n : ℕ) → (k == n) ≡ false → is_among c (service_of cs n).sessions ≡ false
  session_alone at n other = grind (arith, nat_tests, leaving_only k n, eq-eqb k n)

-- ---- messages

module _ (p : Image) (t : Typing) (wired : IsWired p) (s : State) (w : WellTyped p t s) (clients : List Client) (fit : ClientsFit p clients s.cells) where
  -- what waits in a queue is asked for there, by its name
  pub asked_there : (n m : ℕ) (x : Object) → held s.cells (Elsewhere (Waits_at n m)) ≡ Some x → (x.name ≡ m) × (has_message (service_of s.cells n) m ≡ true)
  asked_there n m x e = (fit.names n m x e, (in_queue p t wired s w n m x e).2)

  -- and what is asked for waits there
  pub waiting_there : (n m : ℕ) → has_message (service_of s.cells n) m ≡ true → (x : Object) × (held s.cells (Elsewhere (Waits_at n m)) ≡ Some x) × (x.name ≡ m)
  waiting_there n m h =
      let c = asking m (service_of s.cells n).queue h in
      let x = queued_well p t s w clients fit n c.0 m c.1 in
      (x.0, x.1, fit.names n m x.0 x.1)

  -- what waits has no queue and no sessions
  pub queue_empty : (n : ℕ) (x : Cell) → cell_of s.cells n ≡ Some x → is_queue x.owner ≡ true → (x.service.queue ≡ []) × (x.service.sessions ≡ [])
  queue_empty n x e h =
      let lives : cell_of s.cells x.object.name ≡ Some x = cell_lives s.cells x.owner x w.good.no_duplicates (cell_placed s.cells n x w.good.no_duplicates e) in
      let q = queue_owner x.owner h in
      let there : held s.cells (Elsewhere (Waits_at q.0 q.1)) ≡ Some x.object = ap (held s.cells) (sym q.2) ∙ held_cell s.cells x.owner
      ∙ ap object_in (cell_placed s.cells n x w.good.no_duplicates e) in
      let none = fit.servers x.object (named_cell s.cells x.object.name ∙ ap object_in lives) (waiting_well p t wired s w q.0 q.1 x.object there) in
      let same : service_of s.cells x.object.name ≡ x.service = service_cell s.cells x.object.name ∙ ap service_in lives in
      (ap (λ (v : Service). v.queue) (sym same) ∙ none.0, ap (λ (v : Service). v.sessions) (sym same) ∙ none.1)

  -- of a number that is free nothing is asked for
  pub free_nowhere : (m : ℕ) → named s.cells m ≡ None → (n : ℕ) → has_message (service_of s.cells n) m ≡ false
  free_nowhere m free n = none_named m (service_of s.cells n).queue (λ d. nobody p 0 (record s { clients = clients }) w.good.no_duplicates fit n m free d)

  -- nor of what is owned elsewhere
  pub owned_nowhere : (g : Owner) (o : Object) → held s.cells g ≡ Some o → is_queue g ≡ false → (n : ℕ) → has_message (service_of s.cells n) o.name ≡ false
  owned_nowhere g o there apart n = grind (arith, nat_tests, waiting_there n o.name, one_place)

  -- ---- beside the machine's

  module _ (k : kept.ClientsState) (same : SameClients k s.cells clients) where
    asked_at : (n j : ℕ) → list_any (is_at j) (kept.queue_at k n) ≡ true → has_message (service_of s.cells n) (message_name j) ≡ true
    asked_at n j h = ap (λ q. list_any (is_message (message_name j)) q) (sym (same.queues n)) ∙ asks_message k.places (kept.queue_at k n) j ∙ h

    -- a message that waits has its cell in that queue
    pub owner_waiting : (n j : ℕ) → list_any (is_at j) (kept.queue_at k n) ≡ true →
        owner_of s.cells (message_name j) ≡ Some (Elsewhere (Waits_at n (message_name j)))
    owner_waiting n j h =
        let x = waiting_there n (message_name j) (asked_at n j h) in
        ap (owner_of s.cells) (sym x.2) ∙ owner_held s.cells w.good.no_duplicates (Elsewhere (Waits_at n (message_name j))) x.0 x.1

    pub messages_wait : (n : ℕ) → AllWait k.places (kept.queue_at k n)
    messages_wait n = waits_each k.places (kept.queue_at k n) (λ j h. same.waits j ∙ ap waits_in (owner_waiting n j h))

    -- and no other message is there
    pub waits_apart : (n m j : ℕ) → (m == j) ≡ false → (q : Owner) → owner_of s.cells (message_name j) ≡ Some q →
        same_place q (Elsewhere (Waits_at n (message_name m))) ≡ false
    waits_apart n m j other q e = grind (arith, nat_tests, held_owner s.cells w.good.no_duplicates, same_place-true q, eq-eqb m j)

    -- what waits is asked of the server with which its client has a session
    pub goes_there : (n j d : ℕ) → kept.place_at k j ≡ Queued d → is_among d (service_of s.cells n).sessions ≡ true →
        has_message (service_of s.cells n) (message_name j) ≡ true
    goes_there n j d at has = go (owner_of s.cells (message_name j)) refl (sym (same.waits j) ∙ ap is_queued at)
      where
        sent : is_from d (service_of s.cells (message_name j)).sender ≡ true
        sent = ap (is_from d) (sym (same.senders j) ∙ ap (sent_by (holds k j)) at) ∙ eq-eqb d d refl

        from_one : (x : Option Sender) (c : ℕ) → is_from c x ≡ true → is_from d x ≡ true → c ≡ d
        from_one x c f g = grind arith

        queue : (q : Owner) → owner_of s.cells (message_name j) ≡ Some q → is_queue q ≡ true → has_message (service_of s.cells n) (message_name j) ≡ true
        queue q e h =
            let o = queue_owner q h in
            let i = o.0 in
            let m = o.1 in
            let x = held_owner s.cells w.good.no_duplicates (message_name j) (Elsewhere (Waits_at i m)) (e ∙ ap (λ a. Some a) o.2) in
            let a = asked_there i m x.0 x.1 in
            let here : has_message (service_of s.cells i) (message_name j) ≡ true = ap (has_message (service_of s.cells i)) (sym x.2 ∙ a.0) ∙ a.1 in
            let c = asking (message_name j) (service_of s.cells i).queue here in
            let client : c.0 ≡ d = from_one (service_of s.cells (message_name j)).sender c.0 (fit.senders i c.0 (message_name j) c.1) sent in
            let open_there = open_server i (client_at clients c.0) (opens clients i c.0 (message_name j) (service_of s.cells i).queue (fit.queues i) c.1) in
            let same_server : Some i ≡ Some n = sym open_there ∙ ap (λ y. server_of (client_at clients y)) client ∙ fit.sessions n d has in
            let one : i ≡ n = cc in
            ap (λ y. has_message (service_of s.cells y) (message_name j)) (sym one) ∙ here

        go : (x : Option Owner) → owner_of s.cells (message_name j) ≡ x → waits_in (owner_of s.cells (message_name j)) ≡ true →
            has_message (service_of s.cells n) (message_name j) ≡ true
        go None e h = absurd (false≢true (ap waits_in (sym e) ∙ h))
        go (Some q) e h = queue q e (ap waits_in (sym e) ∙ h)

    -- a message that has a sender and is owned elsewhere was taken, and is completed once
    pub completes_at : (g : Owner) (o : Object) (m : ℕ) →
        held s.cells g ≡ Some o → is_queue g ≡ false → has_sender s.cells o.name ≡ true → o.name ≡ message_name m → IsSome (completion (kept.place_at k m))
    completes_at g o m there apart sent name = grind (arith, nat_tests, taken_sent, has_sender, owner_held)

-- a client that is at something is one of those that there are
module _ (cs : List Cell) (clients : List Client) (k : kept.ClientsState) (same : SameClients k cs clients) (c : ℕ) where
  busy_below : (client_at clients c ≡ Unconnected → ⊥) → c < 64
  busy_below busy = grind (arith, nat_tests, cases_lt c 64, get_or_past k.clients c Unconnected)

  pub connecting_below : (n : ℕ) → is_connecting_at n (client_at clients c) ≡ true → c < 64
  connecting_below n at = busy_below (λ e. false≢true (ap (is_connecting_at n) (sym e) ∙ at))

  pub leaving_below : (n : ℕ) → is_leaving n (client_at clients c) ≡ true → c < 64
  leaving_below n at = busy_below (λ e. false≢true (ap (is_leaving n) (sym e) ∙ at))

  pub open_below : (n : ℕ) → is_open_at n (client_at clients c) ≡ true → c < 64
  open_below n at = busy_below (λ e. false≢true (ap (is_open_at n) (sym e) ∙ at))
