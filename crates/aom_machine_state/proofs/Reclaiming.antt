-- A cell goes, a server with its queue and its sessions, and what stands for clients goes on standing for them.
use Rattle.std.proofs.lemmas.Bool.Decides.{nat_tests}
use Rattle.std.proofs.Common.{Bool, List, None, Option, Some, [], ap, arith, cond, false, length, refl, slice_index_or}
use Rattle.std.proofs.Common.{subst, sym, true, ℕ, ◌<◌, ◌==◌, ◌∙◌, ◌∷◌, ◌≡◌, inl, inr, ◌⊎◌}
use Rattle.std.specs.List.{list_any}
use Rattle.std.specs.Prelude.{filter, map, ◌||◌}
use Rattle.std.proofs.lemmas.Bool.{eq-eqb, eqb-true, false≢true}
use Rattle.aom_clients.specs.Clients as kept
use Rattle.aom_clients.specs.Table.{after_server_destroyed, is_out_of, is_queued, sender}
use Rattle.aom_clients.specs.declared.client.Client.{Client}
use Rattle.aom_clients.specs.declared.client.Client.TheVariants.{Unconnected}
use Rattle.aom_clients.specs.declared.entry.QueueEntry.{QueueEntry}
use Rattle.aom_clients.specs.declared.entry.QueueEntry.TheVariants.{Close, Connect, Message}
use Rattle.aom_clients.specs.declared.place.MessagePlace.{MessagePlace}
use Rattle.aom_clients.specs.declared.place.MessagePlace.TheVariants.{Free, Queued}
use Rattle.aom_machine_state.proofs.SafetyLemmas.{a_cell_of, among_others, among_parted, cell_in, cell_lives, cell_name, cell_of, cell_of_filtered_cells, cell_owner}
use Rattle.aom_machine_state.proofs.SafetyLemmas.{cell_placed, eqb_comm, goes_with, gone_so, held_cell, kept as left_cell, named_cell, object_in}
use Rattle.aom_machine_state.proofs.SafetyLemmas.{queue_ended_at, service_cell, service_in, service_slot_released, sessions_ended_at, filtered_cells}
use Rattle.aom_machine_state.proofs.SemanticsLemmas.{one_place, read_kept, same_place-true, slot_release}
use Rattle.aom_semantics.specs.Clients.{client_at, each_slot_released, queue_ended, sessions_ended}
use Rattle.aom_safety.specs.Kept.{is_connect_of}
use Rattle.aom_semantics.specs.Places.{Cell, Close_of, Connect_of, Elsewhere, Object, Place as Owner, Queued as Waits_at}
use Rattle.aom_semantics.specs.Places.{Sender, Service, NoDuplicates, held, named, place_outer, same_place, service_of, without}
use Rattle.aom_semantics.specs.Servers.{all_slot_released, has_message, holds_slot, is_among, is_message, is_other, is_queue, is_queue_of, slot_released, without_queue}
use Rattle.aom_machine_state.proofs.Completing.{once_without, queued_still}
use Rattle.aom_machine_state.proofs.Departing.{all_without, client_after_queue, client_after_sessions, connects, is_at, lengths_after_queue}
use Rattle.aom_machine_state.proofs.Departing.{lengths_after_sessions, place_after_queue, places_after_sessions, queue_after_queue, queues_after_sessions}
use Rattle.aom_machine_state.proofs.Departing.{sent_after_queue, sent_after_sessions, sessions_after_queue, sessions_after_sessions}
use Rattle.aom_machine_state.proofs.Serving.{names_apart, owners}
use Rattle.aom_machine_state.proofs.Withdrawing.{owner_cell, owner_in, queue_of_owner, queue_of_queue}
use Rattle.aom_machine_state.specs.Serving.{Once, SameClients, asked_by, holds, message_name, owner_of, sent_by, sessionless, waits_in}

either_true : (a b : Bool) → (a || b) ≡ true → (a ≡ true) ⊎ (b ≡ true)
either_true x b h = grind arith

-- ---- messages without slots

-- the sender of a message once those of these clients hold no slot
abbrev pub lost : List ℕ → Option Sender → Option Sender
lost [] m = m
lost (c ∷ cs) m = lost cs (slot_released c m)

lost_none : (xs : List ℕ) → lost xs None ≡ None
lost_none [] = refl
lost_none (c ∷ xs) = lost_none xs

lost_some : (xs : List ℕ) (d : ℕ) (slot reported : Bool) → lost xs (Some (record { client = d; holds_slot = slot; is_reported = reported }))
    ≡ Some (record { client = d; holds_slot = cond (is_among d xs) false slot; is_reported = reported })
lost_some [] d slot reported = refl
lost_some (c ∷ xs) d slot reported = ap (λ m. lost xs (Some m)) (first (d == c)) ∙ lost_some xs d (cond (d == c) false slot) reported
    ∙ ap (λ b. Some (record { client = d; holds_slot = b; is_reported = reported })) (both (is_among d xs) (d == c) (c == d) (eqb_comm d c))
  where
    first : (b : Bool) → ◌≡◌ {A = Sender} (cond b (record { client = d; holds_slot = false; is_reported = reported })
        (record { client = d; holds_slot = slot; is_reported = reported })) (record { client = d; holds_slot = cond b false slot; is_reported = reported })
    first x = grind arith

    both : (a b b' : Bool) → b ≡ b' → cond a false (cond b false slot) ≡ cond (b' || a) false slot
    both a x y e = grind arith

lost_sent : (xs : List ℕ) (slot : Bool) (p : MessagePlace) → lost xs (sent_by slot p) ≡ sent_by (cond (is_among (sender p) xs) false slot) p
lost_sent xs slot x = grind (arith, nat_tests, lost_none xs, lost_some xs)

lost_slot : (xs : List ℕ) (d : ℕ) (m : Option Sender) → holds_slot d (lost xs m) ≡ cond (is_among d xs) false (holds_slot d m)
lost_slot xs d x = grind (arith, nat_tests, lost_none xs, lost_some xs, eqb-true)

pub service_lost : (xs : List ℕ) (cs : List Cell) (n : ℕ) →
    service_of (each_slot_released xs cs) n ≡ record (service_of cs n) { sender = lost xs (service_of cs n).sender }
service_lost [] cs n = refl
service_lost (c ∷ xs) cs n = grind (arith, nat_tests, service_lost xs, service_slot_released c cs n)

owner_slot_released : (c : ℕ) (cs : List Cell) (n : ℕ) → owner_of (all_slot_released c cs) n ≡ owner_of cs n
owner_slot_released c cs n = read_kept (slot_release c) owners (λ x. refl) cs n

owner_lost : (xs : List ℕ) (cs : List Cell) (n : ℕ) → owner_of (each_slot_released xs cs) n ≡ owner_of cs n
owner_lost [] cs n = refl
owner_lost (c ∷ xs) cs n = owner_lost xs (all_slot_released c cs) n ∙ owner_slot_released c cs n

-- ---- each cell

abbrev pub AllCells : (Cell → Type 0) → List Cell → Type 0
AllCells P [] = Unit {0}
AllCells P (c ∷ cs) = P c × AllCells P cs

pub each_cell : (P : Cell → Type 0) (cs : List Cell) → NoDuplicates cs → ((n : ℕ) (x : Cell) → cell_of cs n ≡ Some x → P x) → AllCells P cs
each_cell P [] t h = tt
each_cell P (c ∷ cs) t h =
    (h c.object.name c (ap (λ b. cond b (Some c) (cell_of cs c.object.name)) (eq-eqb c.object.name c.object.name refl)), each_cell P cs t.2 (λ n x e. h n x (behind n x e (c.object.name == n) refl)))
  where
    behind : (n : ℕ) (x : Cell) → cell_of cs n ≡ Some x → (b : Bool) → (c.object.name == n) ≡ b → cond b (Some c) (cell_of cs n) ≡ Some x
    behind n x e true f = let clash : None ≡ Some x.object = sym t.1 ∙ ap (λ k. named cs k) (eqb-true c.object.name n f) ∙ named_cell cs n ∙ ap object_in e in cc
    behind n x e false f = e

-- ---- entries on both sides

pub names_same : (k j : ℕ) → (message_name k == message_name j) ≡ (k == j)
names_same k j = grind (arith, nat_tests, eq-eqb, eqb-true k j, names_apart k j)

pub asks_message : (places : List MessagePlace) (es : List QueueEntry) (j : ℕ) →
    list_any (is_message (message_name j)) (map (asked_by places) es) ≡ list_any (is_at j) es
asks_message places [] j = refl
asks_message places (Message k ∷ es) j = grind (arith, nat_tests, names_same k j, asks_message places es j)
asks_message places (_ ∷ es) j = asks_message places es j

pub asks_connect : (places : List MessagePlace) (es : List QueueEntry) (c : ℕ) → list_any (is_connect_of c) (map (asked_by places) es) ≡ list_any (connects c) es
asks_connect places [] c = refl
asks_connect places (Connect d ∷ es) c = ap (λ b. (d == c) || b) (asks_connect places es c)
asks_connect places (_ ∷ es) c = asks_connect places es c

-- the same is asked where the senders of its messages are the same
asked_alike : (places places' : List MessagePlace) (es : List QueueEntry) → ((m : ℕ) → list_any (is_at m) es ≡ true →
    sender (slice_index_or places' m Free) ≡ sender (slice_index_or places m Free)) → map (asked_by places') es ≡ map (asked_by places) es
asked_alike places places' [] same = refl
asked_alike places places' (Connect c ∷ es) same = ap (λ l. Connect_of c ∷ l) (asked_alike places places' es same)
asked_alike places places' (Close c ∷ es) same = ap (λ l. Close_of c ∷ l) (asked_alike places places' es same)
asked_alike places places' (Message k ∷ es) same = grind (arith, nat_tests, is_at k, eq-eqb k k, asked_alike places places' es)

-- ---- slots without messages

among_without : (es : List QueueEntry) (ms : List ℕ) (j : ℕ) → is_among j (all_without es ms) ≡ cond (list_any (is_at j) es) false (is_among j ms)
among_without [] ms j = refl
among_without (Message k ∷ es) ms j = grind (arith, nat_tests, among_without es, is_at j, eqb-true k j, among_parted k ms, among_others j k ms)
among_without (_ ∷ es) ms j = among_without es ms j

once_after : (es : List QueueEntry) (ms : List ℕ) → Once ms → Once (all_without es ms)
once_after [] ms once = once
once_after (Message k ∷ es) ms once = once_after es (filter (is_other k) ms) (once_without k ms once)
once_after (_ ∷ es) ms once = once_after es ms once

-- ---- the whole

gone_sessionless : (x : Client) → sessionless (after_server_destroyed x) ≡ after_server_destroyed (sessionless x)
gone_sessionless x = grind arith

-- what clients are at, told twice
client_alike : (a b : Bool) (x : Client) → sessionless (cond b (after_server_destroyed (cond a Unconnected x)) (cond a Unconnected x)) ≡ cond b
    (after_server_destroyed (cond a Unconnected (sessionless x))) (cond a Unconnected (sessionless x))
client_alike true true x = refl
client_alike true false x = refl
client_alike false true x = gone_sessionless x
client_alike false false x = refl

-- the object at g goes; it is none of messages, and nothing is a message in its queue but what is asked of it
module _ (s : kept.ClientsState) (cs : List Cell) (clients : List Client) (same : SameClients s cs clients) (no_duplicates : NoDuplicates cs) (o : Object) (g : Owner) (there : held cs
    g ≡ Some o) (apart : is_queue g ≡ false) (small : o.name < 4096) (queue_room : o.name < length s.queues) (session_room : o.name < length s.sessions)
    (empty : (n : ℕ) (x : Cell) → cell_of cs n ≡ Some x → is_queue x.owner ≡ true → (x.service.queue ≡ []) × (x.service.sessions ≡ [])) (asked : (m : ℕ)
    (x : Object) → held cs (Elsewhere (Waits_at o.name m)) ≡ Some x → (x.name ≡ m) × (has_message (service_of cs o.name) m ≡ true)) (waiting : (n m : ℕ) →
    has_message (service_of cs n) m ≡ true → (x : Object) × (held cs (Elsewhere (Waits_at n m)) ≡ Some x) × (x.name ≡ m)) (going : (j d : ℕ) →
    kept.place_at s j ≡ Queued d → is_among d (service_of cs o.name).sessions ≡ true → has_message (service_of cs o.name) (message_name j) ≡ true) where
  abbrev k : ℕ
  k = o.name

  abbrev es : List QueueEntry
  es = kept.queue_at s k

  abbrev xs : List ℕ
  xs = (service_of cs k).sessions

  abbrev drops : Cell → Bool
  drops = goes_with k g

  abbrev stay : List Cell
  stay = filtered_cells drops (λ c. c.service) cs

  abbrev left : List Cell
  left = each_slot_released xs stay

  abbrev between : kept.ClientsState
  between = kept.queue_gone k es s

  abbrev then : kept.ClientsState
  then = kept.server_gone k s

  -- the message of a place goes
  abbrev goes : ℕ → Bool
  goes j = has_message (service_of cs k) (message_name j)

  goes_at : (j : ℕ) → list_any (is_at j) es ≡ goes j
  goes_at j = sym (asks_message s.places es j) ∙ ap (λ q. list_any (is_message (message_name j)) q) (same.queues k)

  connects_at : (c : ℕ) → list_any (connects c) es ≡ list_any (is_connect_of c) (service_of cs k).queue
  connects_at c = sym (asks_connect s.places es c) ∙ ap (λ q. list_any (is_connect_of c) q) (same.queues k)

  sessions_so : kept.sessions_at between k ≡ xs
  sessions_so = ap (λ l. slice_index_or l k []) (sessions_after_queue k es s) ∙ same.sessions k

  listed_so : kept.sessions_at s k ≡ xs
  listed_so = same.sessions k

  -- ---- which cells go

  owner_there : (n : ℕ) (x : Cell) → cell_of cs n ≡ Some x → held cs x.owner ≡ Some x.object
  owner_there n x e = held_cell cs x.owner ∙ ap object_in (cell_placed cs n x no_duplicates e)

  -- a cell that is owned by its queue is asked for there
  drops_queue : (n : ℕ) (x : Cell) → cell_of cs n ≡ Some x → is_queue_of k x.owner ≡ true → has_message (service_of cs k) n ≡ true
  drops_queue n x e h = grind (arith, nat_tests, queue_of_owner, owner_there n x e, cell_name cs n x e)

  drops_own : (n : ℕ) (x : Cell) → cell_of cs n ≡ Some x → same_place x.owner g ≡ true → n ≡ k
  drops_own n x e h = grind (arith, nat_tests, owner_there n x e, same_place-true x.owner g h, cell_name cs n x e)

  drops_message : (j : ℕ) (x : Cell) → cell_of cs (message_name j) ≡ Some x → drops x ≡ goes j
  drops_message j x e = go (goes j) refl
    where
      placed : (y : Object) → held cs (Elsewhere (Waits_at k (message_name j))) ≡ Some y → y.name ≡ message_name j →
          x.owner ≡ Elsewhere (Waits_at k (message_name j))
      placed y at name =
          let z = a_cell_of (cell_in cs (Elsewhere (Waits_at k (message_name j)))) y (sym (held_cell cs (Elsewhere (Waits_at k (message_name j)))) ∙ at) in
          let lives = cell_lives cs (Elsewhere (Waits_at k (message_name j))) z.0 no_duplicates z.1 in
          let one : Some z.0 ≡ Some x = sym lives ∙ ap (λ n. cell_of cs n) (ap (λ (y : Object). y.name) z.2 ∙ name) ∙ e in
          let cell : z.0 ≡ x = cc in
          ap (λ (c : Cell). c.owner) (sym cell) ∙ cell_owner cs (Elsewhere (Waits_at k (message_name j))) z.0 z.1

      stays : (a b : Bool) → is_queue_of k x.owner ≡ a → same_place x.owner g ≡ b → goes j ≡ false → (a || b) ≡ false
      stays true b f h none = absurd (false≢true (sym none ∙ drops_queue (message_name j) x e f))
      stays false true f h none = let at = drops_own (message_name j) x e h in absurd (omega (arith, at, small))
      stays false false f h none = refl

      go : (b : Bool) → goes j ≡ b → drops x ≡ b
      go true h =
          let w = waiting k (message_name j) h in
          ap (λ q. is_queue_of k q || same_place q g) (placed w.0 w.1 w.2) ∙ ap (λ b. b || same_place (Elsewhere (Waits_at k (message_name j))) g) (eq-eqb k k refl)
      go false h = stays (is_queue_of k x.owner) (same_place x.owner g) refl refl h

  -- a message that goes has its cell
  cell_stays : (j : ℕ) → cell_of stay (message_name j) ≡ cond (goes j) None (cell_of cs (message_name j))
  cell_stays j = grind (arith, nat_tests, cell_of_filtered_cells, cell_of, left_cell, drops_message j)

  -- what else goes has no queue and no sessions
  parts_stay : (n : ℕ) → ((service_of stay n).queue ≡ cond (k == n) [] (service_of cs n).queue)
      × ((service_of stay n).sessions ≡ cond (k == n) [] (service_of cs n).sessions)
  parts_stay n = subst (λ v. (v.queue ≡ cond (k == n) [] (service_of cs n).queue) × (v.sessions ≡ cond (k == n) [] (service_of cs n).sessions))
      (sym (service_cell stay n ∙ ap service_in (cell_of_filtered_cells drops (λ c. c.service) cs n no_duplicates))) (go (cell_of cs n) refl (k == n) refl)
    where
      was : (x : Option Cell) → cell_of cs n ≡ x → service_of cs n ≡ service_in x
      was x e = service_cell cs n ∙ ap service_in e

      -- the one that goes
      own : (x : Cell) → cell_of cs n ≡ Some x → (k == n) ≡ true → drops x ≡ true
      own x e f = grind (arith, nat_tests, a_cell_of, cell_in, held_cell, cell_lives, cell_of, eqb-true, cell_owner)

      at : (x : Cell) → cell_of cs n ≡ Some x → (b : Bool) → (k == n) ≡ b → (d : Bool) → drops x ≡ d → ((service_in (cond d None (Some x))).queue
          ≡ cond b [] (service_of cs n).queue) × ((service_in (cond d None (Some x))).sessions ≡ cond b [] (service_of cs n).sessions)
      at x e true f true g' = (refl, refl)
      at x e true f false g' = absurd (false≢true (sym g' ∙ own x e f))
      at x e false f false g' = (sym (ap (λ (v : Service). v.queue) (was (Some x) e)), sym (ap (λ (v : Service). v.sessions) (was (Some x) e)))
      at x e false f true g' =
          let none : (x.service.queue ≡ []) × (x.service.sessions ≡ []) = elim (either_true (is_queue_of k x.owner) (same_place x.owner g) g') [
            | inl queue ↦ empty n x e (queue_of_queue k x.owner queue)
            | inr own ↦ absurd (false≢true (sym f ∙ eq-eqb k n (sym (drops_own n x e own))))
          ] in
          (sym (ap (λ (v : Service). v.queue) (was (Some x) e) ∙ none.0), sym (ap (λ (v : Service). v.sessions) (was (Some x) e) ∙ none.1))

      nothing : {A : Type 0} (b : Bool) (l : List A) → l ≡ [] → [] ≡ cond b [] l
      nothing true l e = refl
      nothing false l e = sym e

      go : (x : Option Cell) → cell_of cs n ≡ x → (b : Bool) → (k == n) ≡ b → ((service_in (left_cell drops (λ c. c.service) x)).queue ≡ cond b []
          (service_of cs n).queue) × ((service_in (left_cell drops (λ c. c.service) x)).sessions ≡ cond b [] (service_of cs n).sessions)
      go None e b f = (nothing b (service_of cs n).queue (ap (λ (v : Service). v.queue) (was None e)), nothing b (service_of cs n).sessions (ap (λ (v : Service). v.sessions) (was None e)))
      go (Some x) e b f = at x e b f (drops x) refl

  -- ---- what is told of a message

  sender_left : (j : ℕ) → (service_of left (message_name j)).sender ≡ lost xs (cond (goes j) None (service_of cs (message_name j)).sender)
  sender_left j = ap (λ (v : Service). v.sender) (service_lost xs stay (message_name j))
      ∙ ap (λ (v : Service). lost xs v.sender) (service_cell stay (message_name j) ∙ ap service_in (cell_stays j)) ∙ ap (lost xs) (go (goes j))
    where
      go : (b : Bool) → (service_in (cond b None (cell_of cs (message_name j)))).sender ≡ cond b None (service_of cs (message_name j)).sender
      go true = refl
      go false = ap (λ (v : Service). v.sender) (sym (service_cell cs (message_name j)))

  owner_left : (j : ℕ) → waits_in (owner_of left (message_name j)) ≡ cond (goes j) false (waits_in (owner_of cs (message_name j)))
  owner_left j = ap waits_in (owner_lost xs stay (message_name j) ∙ owner_cell stay (message_name j) ∙ ap owner_in (cell_stays j)) ∙ go (goes j)
    where
      go : (b : Bool) → waits_in (owner_in (cond b None (cell_of cs (message_name j)))) ≡ cond b false (waits_in (owner_of cs (message_name j)))
      go true = refl
      go false = ap waits_in (sym (owner_cell cs (message_name j)))

  place_then : (j : ℕ) → kept.place_at then j ≡ cond (goes j) Free (kept.place_at s j)
  place_then j = grind (arith, nat_tests, places_after_sessions, place_after_queue, goes_at j)

  sent_then : (d : ℕ) → kept.sent_at then d ≡ cond (is_among d xs) [] (all_without es (kept.sent_at s d))
  sent_then d = grind (arith, nat_tests, sent_after_sessions, listed_so, sent_after_queue)

  among_then : (d j : ℕ) → is_among j (kept.sent_at then d) ≡ cond (is_among d xs) false (cond (goes j) false (is_among j (kept.sent_at s d)))
  among_then d j = grind (arith, nat_tests, sent_then d, all_without, among_without, goes_at j)

  senders_then : (j : ℕ) → sent_by (holds then j) (kept.place_at then j) ≡ (service_of left (message_name j)).sender
  senders_then j = grind (arith, nat_tests, place_then j, sender_left j, lost_none, among_then, lost_sent)

  -- what is told of a place is told no more where its message goes
  place_reported : (f : MessagePlace → Bool) → f Free ≡ false → (j : ℕ) → f (kept.place_at then j) ≡ cond (goes j) false (f (kept.place_at s j))
  place_reported f free j = grind (arith, nat_tests, place_then j)

  waits_then : (j : ℕ) → is_queued (kept.place_at then j) ≡ waits_in (owner_of left (message_name j))
  waits_then j = place_reported is_queued refl j ∙ ap (λ b. cond (goes j) false b) (same.waits j) ∙ sym (owner_left j)

  out_then : (d j : ℕ) → is_among j (kept.sent_at then d) ≡ true → is_out_of d (kept.place_at then j) ≡ true
  out_then d j h = grind (arith, nat_tests, among_then d j, place_then j, same.out d j)

  -- what stays holds no slot that it did not hold
  silent_then : (n d : ℕ) → n < 4096 → holds_slot d (service_of left n).sender ≡ false
  silent_then n d low = ap (λ (v : Service). holds_slot d v.sender) (service_lost xs stay n) ∙ lost_slot xs d (service_of stay n).sender
      ∙ ap (cond (is_among d xs) false) (ap (λ (v : Service). holds_slot d v.sender) (service_cell stay n ∙ ap service_in (cell_of_filtered_cells drops (λ c. c.service)
      cs n no_duplicates)) ∙ stays (cell_of cs n) (sym (ap (λ (v : Service). holds_slot d v.sender) (service_cell cs n)) ∙ same.silent n d low)) ∙ never (is_among d xs)
    where
      stays : (x : Option Cell) → holds_slot d (service_in x).sender ≡ false → holds_slot d (service_in (left_cell drops (λ c. c.service) x)).sender ≡ false
      stays x none = grind (arith, nat_tests)

      never : (b : Bool) → cond b false false ≡ false
      never b = grind (arith, nat_tests)

  slotted_then : (j d : ℕ) → kept.place_at then j ≡ Queued d → is_among j (kept.sent_at then d) ≡ true
  slotted_then j d e = grind (arith, nat_tests, queued_still, place_then j, among_then d j)

  once_then : (d : ℕ) → Once (kept.sent_at then d)
  once_then d = grind (arith, nat_tests, sent_then d, all_without, once_after)

  -- ---- queues, sessions and clients

  queues_then : (n : ℕ) → map (asked_by then.places) (kept.queue_at then n) ≡ (service_of left n).queue
  queues_then n = ap (λ l. map (asked_by then.places) l) (ap (λ l. slice_index_or l n []) (queues_after_sessions k (kept.sessions_at s k) between)
      ∙ queue_after_queue k es s n queue_room refl) ∙ go (k == n) refl ∙ sym (ap (λ (v : Service). v.queue) (service_lost xs stay n) ∙ (parts_stay n).0)
    where
      -- another server's messages stay
      stays : (k == n) ≡ false → (j : ℕ) → list_any (is_at j) (kept.queue_at s n) ≡ true → goes j ≡ false
      stays other j h = by (goes j) refl
        where
          by : (b : Bool) → goes j ≡ b → b ≡ false
          by false e = refl
          by true e =
              let x = waiting k (message_name j) e in
              let y = waiting n (message_name j)
              (ap (λ q. list_any (is_message (message_name j)) q) (sym (same.queues n)) ∙ asks_message s.places (kept.queue_at s n) j ∙ h) in
              let one = one_place cs (Elsewhere (Waits_at k (message_name j))) (Elsewhere (Waits_at n (message_name j))) x.0 y.0 no_duplicates x.1 y.1 (x.2 ∙ sym y.2) in
              absurd (false≢true (sym other ∙ eq-eqb k n (ap place_outer one)))

      go : (b : Bool) → (k == n) ≡ b → map (asked_by then.places) (cond b [] (kept.queue_at s n)) ≡ cond b [] (service_of cs n).queue
      go true e = refl
      go false e = asked_alike s.places then.places (kept.queue_at s n)
          (λ j h. ap sender (place_then j ∙ ap (λ b. cond b Free (kept.place_at s j)) (stays e j h))) ∙ same.queues n

  sessions_then : (n : ℕ) → kept.sessions_at then n ≡ (service_of left n).sessions
  sessions_then n = grind (arith, nat_tests, sessions_after_sessions, sessions_after_queue, service_lost, parts_stay n)

  at_then : (c : ℕ) → sessionless (kept.client_at then c) ≡ client_at (sessions_ended xs (queue_ended (service_of cs k).queue clients)) c
  at_then c =
      grind (arith, nat_tests, client_after_sessions, listed_so, client_after_queue, client_alike, connects c, connects_at c, sessions_ended_at, queue_ended_at)

  same_left : SameClients then left (sessions_ended xs (queue_ended (service_of cs k).queue clients))
  same_left =
      let many = (lengths_after_sessions k (kept.sessions_at s k) between).0 ∙ (lengths_after_queue k es s).0 ∙ same.many in
      let lists = (lengths_after_sessions k (kept.sessions_at s k) between).2 ∙ (lengths_after_queue k es s).3 ∙ same.lists in
      assumption (at_then, queues_then, sessions_then, senders_then, waits_then, out_then, slotted_then, once_then, silent_then, many, lists)

  pub same_reclaimed : SameClients then (each_slot_released xs (without g (without_queue k cs))) (sessions_ended xs (queue_ended (service_of cs k).queue clients))
  same_reclaimed = grind (arith, nat_tests, gone_so, same_left)
