-- A client closes or dies: its messages that wait go, its others hold no slot and are told to nobody, and all else goes on standing for what it stood for.
use Rattle.std.proofs.Common.{Bool, List, None, Option, Some, [], ap, cond, false, length, refl, slice_index_or}
use Rattle.std.proofs.Common.{subst, sym, true, ℕ, ◌&&◌, ◌<◌, ◌==◌, ◌∙◌, ◌∷◌, ◌≡◌, arith}
use Rattle.std.specs.Prelude.{filter, map, not}
use Rattle.std.proofs.lemmas.Bool.{eq-eqb, eqb-true, false≢true, ne_eqb}
use Rattle.std.proofs.lemmas.Bool.Decides.{nat_tests}
use Rattle.std.proofs.Math.ListN.{get_or-map}
use Rattle.std.proofs.lemmas.List.{length-set}
use Rattle.aom_clients.specs.Clients as kept
use Rattle.aom_clients.specs.declared.client.Client.{Client}
use Rattle.aom_clients.specs.declared.client.Client.TheVariants.{Open}
use Rattle.aom_image.specs.Image.{Image}
use Rattle.aom_clients.specs.declared.entry.QueueEntry.{QueueEntry}
use Rattle.aom_clients.specs.declared.entry.QueueEntry.TheVariants.{Connect, Message, Close}
use Rattle.aom_clients.specs.declared.place.MessagePlace.{MessagePlace}
use Rattle.aom_clients.specs.declared.place.MessagePlace.TheVariants.{Free, Queued}
use Rattle.aom_clients.specs.Table.{is_out_of, is_queued, is_waiting_of, sender}
use Rattle.aom_machine_state.proofs.SafetyLemmas.{cell_of, cell_of_filtered_cells, kept as left_cell, service_cell, service_in, withdrawn_so}
use Rattle.aom_semantics.specs.Places.{Asked, Cell, Close_of, Connect_of, Elsewhere, Object, Place as Owner}
use Rattle.aom_semantics.specs.Places.{Queued as Waits_at, named, Sender, Service, NoDuplicates, service_of}
use Rattle.aom_semantics.specs.Servers.{asked_last, discarded, holds_slot, is_among, is_from, is_queue, is_queue_of, left_by, reserved, stays, withdrawn}
use Rattle.aom_semantics.specs.Clients.{client_at, reported, with_client}
use Rattle.aom_semantics.specs.State.{State}
use Rattle.aom_machine_state.proofs.Serving.{at_set, same_client, same_closing}
use Rattle.aom_machine_state.specs.Serving.{Once, SameClients, asked_by, holds, message_name, owner_of, sent_by, sessionless, waits_in}

-- ---- owners that are queues

pub queue_owner : (q : Owner) → is_queue q ≡ true → (n : ℕ) × (m : ℕ) × (q ≡ Elsewhere (Waits_at n m))
queue_owner x h = grind arith

pub queue_of_queue : (n : ℕ) (q : Owner) → is_queue_of n q ≡ true → is_queue q ≡ true
queue_of_queue n q h = grind arith

pub queue_of_owner : (n : ℕ) (q : Owner) → is_queue_of n q ≡ true → (m : ℕ) × (q ≡ Elsewhere (Waits_at n m))
queue_of_owner n q h = grind (arith, nat_tests, queue_owner q (queue_of_queue n q h), queue_of_queue n q h, eqb-true)

-- ---- one cell

abbrev pub owner_in : Option Cell → Option Owner
owner_in None = None
owner_in (Some x) = Some x.owner

pub owner_cell : (cs : List Cell) (n : ℕ) → owner_of cs n ≡ owner_in (cell_of cs n)
owner_cell [] n = refl
owner_cell (c ∷ cs) n = grind (arith, nat_tests, owner_cell cs n, cell_of cs n)

module _ (c : ℕ) where
  abbrev drops : Cell → Bool
  drops x = is_queue x.owner && is_from c x.service.sender

  abbrev serves : Cell → Service
  serves x = left_by c x.service

  abbrev left_of : Option Cell → Option Cell
  left_of x = left_cell drops serves x

  -- ---- the sender of a message, and its place

  -- the sender that is left
  abbrev remains : Bool → Option Sender → Option Sender
  remains goes x = cond goes None (discarded c x)

  -- of a message at that place
  sender_left : (slot slot' : Bool) (p : MessagePlace) → ((d : ℕ) → sender p ≡ d → (d == c) ≡ false → slot' ≡ slot) → (is_queued p ≡ false → (d : ℕ) → sender p
      ≡ d → (d == c) ≡ true → slot' ≡ false) → sent_by slot' (kept.left_place c p) ≡ remains (is_queued p && is_from c (sent_by slot p)) (sent_by slot p)
  sender_left slot slot' x other own = grind arith

  queued_left : (slot : Bool) (p : MessagePlace) → is_queued (kept.left_place c p) ≡ cond (is_queued p && is_from c (sent_by slot p)) false (is_queued p)
  queued_left slot p = grind (arith, nat_tests)

  -- what slots it held of a client: none of this one's any more
  slot_left : (goes : Bool) (x : Option Sender) (d : ℕ) → (goes ≡ true → is_from c x ≡ true) → holds_slot d (remains goes x) ≡ cond (c == d) false (holds_slot d x)
  slot_left goes x d from = grind (arith, nat_tests, eqb-true c d)

  -- nor does what held none
  slot_then : (d : ℕ) (x : Option Cell) → holds_slot d (service_in x).sender ≡ false → holds_slot d (service_in (left_of x)).sender ≡ false
  slot_then d x none = grind (arith, nat_tests, slot_left)

  -- what is at a place that another client's message has, and whose it is
  left_other : (p : MessagePlace) → (sender p == c) ≡ false → kept.left_place c p ≡ p
  left_other p e = grind (arith, nat_tests)

  left_queued : (p : MessagePlace) (d : ℕ) → kept.left_place c p ≡ Queued d → (p ≡ Queued d) × ((d == c) ≡ false)
  left_queued p d e = grind (arith, nat_tests)

  left_out : (p : MessagePlace) (d : ℕ) → (c == d) ≡ false → is_out_of d p ≡ true → is_out_of d (kept.left_place c p) ≡ true
  left_out p d other out = grind (arith, nat_tests, eqb-true)

  left_own : (p : MessagePlace) → is_queued p ≡ false → sender (kept.left_place c p) ≡ sender p
  left_own x e = grind arith

  waits_of : (p : MessagePlace) → is_queued p ≡ true → is_waiting_of c p ≡ (sender p == c)
  waits_of x e = grind arith

-- ---- what waits in a queue

-- the messages in it wait
abbrev pub AllWait : List MessagePlace → List QueueEntry → Type 0
AllWait places [] = Unit {0}
AllWait places (Message j ∷ es) = (is_queued (slice_index_or places j Free) ≡ true) × AllWait places es
AllWait places (_ ∷ es) = AllWait places es

module _ (c : ℕ) (places : List MessagePlace) where
  abbrev places' : List MessagePlace
  places' = map (λ p. kept.left_place c p) places

  step : (b : Bool) (e : QueueEntry) (r : List QueueEntry) (a : Asked) (q : List Asked) →
      map (asked_by places') r ≡ q → (b ≡ true → asked_by places' e ≡ a) → map (asked_by places') (cond b (e ∷ r) r) ≡ cond b (a ∷ q) q
  step x e r a q ih h = grind arith

  entries_left : (es : List QueueEntry) → AllWait places es →
      map (asked_by places') (filter (λ e. kept.stays c places e) es) ≡ filter (stays c) (map (asked_by places) es)
  entries_left [] waits = refl
  entries_left (Connect d ∷ es) waits = step (not (d == c)) (Connect d) (filter (λ e. kept.stays c places e) es) (Connect_of d) _ (entries_left es waits) (λ h. refl)
  entries_left (Close d ∷ es) waits = ap (λ l. Close_of d ∷ l) (entries_left es waits)
  entries_left (Message j ∷ es) waits =
      grind (arith, nat_tests, waits_of c, step, entries_left es waits.1, get_or-map (kept.left_place c) places j Free, left_other c)

-- ---- all of it

-- what waits in a queue has no queue and no sessions of its own
module _ (s : kept.ClientsState) (cs : List Cell) (clients : List Client) (same : SameClients s cs clients) (no_duplicates : NoDuplicates cs) (c : ℕ) (client : c < 64)
    (plain : (n : ℕ) (x : Cell) → cell_of cs n ≡ Some x → is_queue x.owner ≡ true → (x.service.queue ≡ []) × (x.service.sessions ≡ []))
    (waiting : (n : ℕ) → AllWait s.places (kept.queue_at s n)) where
  abbrev then : kept.ClientsState
  then = kept.withdrawn c s

  abbrev left : List Cell
  left = withdrawn c cs

  cell_then : (n : ℕ) → cell_of left n ≡ left_of c (cell_of cs n)
  cell_then n = ap (λ l. cell_of l n) (withdrawn_so c cs) ∙ cell_of_filtered_cells (drops c) (serves c) cs n no_duplicates

  service_then : (n : ℕ) → service_of left n ≡ service_in (left_of c (cell_of cs n))
  service_then n = service_cell left n ∙ ap service_in (cell_then n)

  first : (a b : Bool) → (a && b) ≡ true → a ≡ true
  first x b e = grind arith

  queue_left : (n : ℕ) (x : Option Cell) → cell_of cs n ≡ x → filter (stays c) (service_in x).queue ≡ (service_in (left_of c x)).queue
  queue_left y z at = grind (arith, nat_tests, service_in, first)

  sessions_left : (n : ℕ) (x : Option Cell) → cell_of cs n ≡ x → (service_in x).sessions ≡ (service_in (left_of c x)).sessions
  sessions_left y z at = grind (arith, nat_tests, service_in, first)

  place_then : (j : ℕ) → kept.place_at then j ≡ kept.left_place c (kept.place_at s j)
  place_then j = get_or-map (kept.left_place c) s.places j Free

  sent_of : (d : ℕ) → kept.sent_at then d ≡ cond (c == d) [] (kept.sent_at s d)
  sent_of d = at_set [] s.sent c d [] (subst (λ n. c < n) (sym same.lists) client)

  among_then : (d j : ℕ) → is_among j (kept.sent_at then d) ≡ cond (c == d) false (is_among j (kept.sent_at s d))
  among_then d j = grind (arith, nat_tests, sent_of d)

  swapped : (a b : ℕ) (x : Bool) → (a == b) ≡ x → (b == a) ≡ x
  swapped a b true e = eq-eqb b a (sym (eqb-true a b e))
  swapped a b false e = ne_eqb b a (λ same. false≢true (sym e ∙ eq-eqb a b (sym same)))

  -- a cell with its sender and its place
  sender_reported : (j : ℕ) (x : Option Cell) → cell_of cs (message_name j) ≡ x → sent_by (holds s j) (kept.place_at s j) ≡ (service_in x).sender
  sender_reported j x at = same.senders j ∙ ap (λ (v : Service). v.sender) (service_cell cs (message_name j) ∙ ap service_in at)

  waits_reported : (j : ℕ) (x : Option Cell) → cell_of cs (message_name j) ≡ x → is_queued (kept.place_at s j) ≡ waits_in (owner_in x)
  waits_reported j x at = same.waits j ∙ ap waits_in (owner_cell cs (message_name j) ∙ ap owner_in at)

  goes_so : (j : ℕ) (x : Cell) → cell_of cs (message_name j) ≡ Some x →
      (is_queued (kept.place_at s j) && is_from c (sent_by (holds s j) (kept.place_at s j))) ≡ drops c x
  goes_so j x at = grind (arith, nat_tests, waits_reported j (Some x) at, sender_reported j (Some x) at)

  none_goes : (p : MessagePlace) (slot : Bool) → sent_by slot p ≡ None → (is_queued p && is_from c (sent_by slot p)) ≡ false
  none_goes x slot e = grind arith

  left_sender : (j : ℕ) (x : Option Cell) → cell_of cs (message_name j) ≡ x → remains c (is_queued (kept.place_at s j)
      && is_from c (sent_by (holds s j) (kept.place_at s j))) (sent_by (holds s j) (kept.place_at s j)) ≡ (service_in (left_of c x)).sender
  left_sender j None at = grind (arith, nat_tests, none_goes, sender_reported j None at)
  left_sender j (Some x) at = grind (arith, nat_tests, goes_so j x at, sender_reported j (Some x) at, service_in)

  senders_then : (j : ℕ) → sent_by (holds then j) (kept.place_at then j) ≡ (service_of left (message_name j)).sender
  senders_then j = ap (λ p. sent_by (is_among j (kept.sent_at then (sender p))) p) (place_then j)
      ∙ sender_left c (holds s j) (is_among j (kept.sent_at then (sender (kept.left_place c (kept.place_at s j))))) (kept.place_at s j) other own
      ∙ left_sender j (cell_of cs (message_name j)) refl ∙ sym (ap (λ (v : Service). v.sender) (service_then (message_name j)))
    where
      p : MessagePlace
      p = kept.place_at s j

      other : (d : ℕ) → sender p ≡ d → (d == c) ≡ false → is_among j (kept.sent_at then (sender (kept.left_place c p))) ≡ holds s j
      other d is e =
          let apart : (sender p == c) ≡ false = ap (λ k. k == c) is ∙ e in
          ap (λ q. is_among j (kept.sent_at then (sender q))) (left_other c p apart)
          ∙ among_then (sender p) j ∙ ap (λ b. cond b false (is_among j (kept.sent_at s (sender p)))) (swapped (sender p) c false apart)

      own : is_queued p ≡ false → (d : ℕ) → sender p ≡ d → (d == c) ≡ true → is_among j (kept.sent_at then (sender (kept.left_place c p))) ≡ false
      own unqueued d is e = ap (λ k. is_among j (kept.sent_at then k)) (left_own c p unqueued)
          ∙ among_then (sender p) j ∙ ap (λ b. cond b false (is_among j (kept.sent_at s (sender p)))) (swapped (sender p) c true (ap (λ k. k == c) is ∙ e))

  -- what is told of places alone, and of cells but for what clients have there
  reported_then : (f : MessagePlace → Bool) (g : Option Cell → Bool) → ((j : ℕ) → f (kept.left_place c (kept.place_at s j)) ≡ cond
      (is_queued (kept.place_at s j) && is_from c (sent_by (holds s j) (kept.place_at s j))) false (f (kept.place_at s j))) →
      ((x : Cell) (v : Service) → g (Some (record x { service = v })) ≡ g (Some x)) → g None ≡ false → ((j : ℕ) (x : Option Cell) →
      cell_of cs (message_name j) ≡ x → f (kept.place_at s j) ≡ g x) → (j : ℕ) → f (kept.place_at then j) ≡ g (cell_of left (message_name j))
  reported_then f g leaves plain none reported j = grind (arith, nat_tests, place_then j, cell_of, cell_then, none_goes, sender_reported j None, goes_so j)

  waits_then : (j : ℕ) → is_queued (kept.place_at then j) ≡ waits_in (owner_of left (message_name j))
  waits_then j = reported_then is_queued (λ x. waits_in (owner_in x)) (λ j. queued_left c (holds s j) (kept.place_at s j)) (λ x v. refl) refl waits_reported j
      ∙ sym (ap waits_in (owner_cell left (message_name j)))

  out_then : (d j : ℕ) → is_among j (kept.sent_at then d) ≡ true → is_out_of d (kept.place_at then j) ≡ true
  out_then d j h = grind (arith, nat_tests, among_then d j, place_then j, same.out d j, left_out c)

  silent_then : (n d : ℕ) → n < 4096 → holds_slot d (service_of left n).sender ≡ false
  silent_then n d small = ap (λ (v : Service). holds_slot d v.sender) (service_then n)
      ∙ slot_then c d (cell_of cs n) (sym (ap (λ (v : Service). holds_slot d v.sender) (service_cell cs n)) ∙ same.silent n d small)

  slotted_then : (j d : ℕ) → kept.place_at then j ≡ Queued d → is_among j (kept.sent_at then d) ≡ true
  slotted_then j d e = grind (arith, nat_tests, left_queued c, place_then j, among_then d j, swapped d c)

  pub same_withdrawn : SameClients then left clients
  same_withdrawn = record {
    at = same.at;
    queues = λ n. ap (λ es. map (asked_by then.places) es) (get_or-map (filter (kept.stays c s.places)) s.queues n []) ∙ entries_left c s.places
        (kept.queue_at s n) (waiting n) ∙ ap (λ q. filter (stays c) q) (same.queues n ∙ ap (λ (v : Service). v.queue) (service_cell cs n))
        ∙ queue_left n (cell_of cs n) refl ∙ sym (ap (λ (v : Service). v.queue) (service_then n));
    sessions = λ n. same.sessions n ∙ ap (λ (v : Service). v.sessions) (service_cell cs n) ∙ sessions_left n (cell_of cs n) refl
        ∙ sym (ap (λ (v : Service). v.sessions) (service_then n));
    senders = senders_then;
    waits = waits_then;
    out = out_then;
    slotted = slotted_then;
    once = λ d. subst Once (sym (sent_of d)) (once_then (c == d) d);
    silent = silent_then;
    many = same.many;
    lists = length-set s.sent c [] ∙ same.lists;
  }
    where
      once_then : (b : Bool) (d : ℕ) → Once (cond b [] (kept.sent_at s d))
      once_then y d = grind arith

  -- its close is asked for where its session was open
  module _ (p : Image) (st : State) (to : Client) (tidy_left : NoDuplicates left) (server : (n session slots : ℕ) → kept.client_at s c ≡ Open n session slots →
      (o : Object) × (o.name ≡ n) × (named left o.name ≡ Some o) × (o.name < length then.queues)) where
    abbrev moved : kept.ClientsState
    moved = kept.with_client c to then

    now : SameClients moved left (with_client c (sessionless to) clients)
    now = same_client then left clients same_withdrawn c client to

    reported_so : (x : Client) → kept.client_at s c ≡ x → SameClients (kept.reported x c moved) (reported p c st (sessionless x) left) (with_client c (sessionless to) clients)
    reported_so (Open n session slots) at =
        let o = server n session slots at in
        subst (λ k. SameClients (kept.queued k (Close c) moved) (reserved (asked_last (Close_of c)) k left) (with_client c (sessionless to) clients)) o.1
        (same_closing moved left (with_client c (sessionless to) clients) now o.0 o.2 c client o.3)
    reported_so _ at = now

    pub same_left : SameClients (kept.leaving (Some to) c s) (reported p c st (client_at clients c) left) (with_client c (sessionless to) clients)
    same_left = subst (λ x. SameClients (kept.leaving (Some to) c s) (reported p c st x left) (with_client c (sessionless to) clients)) (same.at c)
        (reported_so (kept.client_at s c) refl)
