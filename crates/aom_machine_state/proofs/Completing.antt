-- A message is completed: its cell goes, its place and its slot are free, and all else goes on standing for what it stood for.
use Rattle.std.proofs.lemmas.Bool.Decides.{nat_tests}
use Rattle.std.proofs.Common.{Bool, List, None, Some, [], ap, arith, cond, false, length, refl, subst}
use Rattle.std.proofs.Common.{suc, sym, true, ℕ, ◌+◌, ◌<◌, ◌==◌, ◌∙◌, ◌∷◌, ◌≡◌, ◌≤◌, ◌⊎◌, inl, inr}
use Rattle.std.specs.List.{list_any}
use Rattle.std.specs.Prelude.{filter, map, ◌-◌, ◌||◌}
use Rattle.std.proofs.lemmas.Bool.{cases_lt, eq-eqb, eqb-true, false≢true, ne_eqb}
use Rattle.std.proofs.Math.ListN.{get_or-map}
use Rattle.std.proofs.lemmas.List.{length-map}
use Rattle.aom_clients.specs.Clients as kept
use Rattle.aom_clients.specs.declared.client.Client.{Client}
use Rattle.aom_clients.specs.declared.place.MessagePlace.{MessagePlace}
use Rattle.aom_clients.specs.declared.place.MessagePlace.TheVariants.{Free, Queued}
use Rattle.aom_clients.specs.Table.{is_out_of, is_queued}
use Rattle.aom_machine_state.proofs.SemanticsLemmas.{read_unnamed, read_without, unnamed}
use Rattle.aom_machine_state.proofs.SafetyLemmas.{among_others, among_parted, service_unnamed, service_without}
use Rattle.aom_semantics.specs.Places.{Cell, Object, Place as Owner, Service, NoDuplicates, held, named, service_of, unserved, without}
use Rattle.aom_semantics.specs.Servers.{holds_slot, is_among, is_message, is_other, slots_taken}
use Rattle.aom_machine_state.proofs.Serving.{asked_apart, at_set, names_apart, owners, slots_of}
use Rattle.aom_machine_state.specs.Serving.{Once, SameClients, asked_by, holds, message_name, owner_of, sent_by, waits_in}

-- a message that waits still, where one place was freed
pub queued_still : (b : Bool) (p : MessagePlace) (d : ℕ) → cond b Free p ≡ Queued d → (b ≡ false) × (p ≡ Queued d)
queued_still b p d e = grind arith

-- ---- lists without a message

-- of what is there once, one goes where it was there
length_without : (m : ℕ) (ms : List ℕ) → Once ms → length ms ≡ length (filter (is_other m) ms) + cond (is_among m ms) 1 0
length_without m [] once = refl
length_without m (k ∷ ms) once = grind (arith, nat_tests, length_without m ms once.1, eqb-true k m)

pub once_without : (m : ℕ) (ms : List ℕ) → Once ms → Once (filter (is_other m) ms)
once_without m [] once = tt
once_without m (k ∷ ms) once = grind (arith, nat_tests, once_without m ms once.1, among_others k m ms, ne_eqb m k, eq-eqb k m)

-- ---- a cell goes

pub owner_unnamed : (cs : List Cell) (n : ℕ) → named cs n ≡ None → owner_of cs n ≡ None
owner_unnamed = read_unnamed owners

pub owner_without : (g : Owner) (o : Object) (cs : List Cell) (n : ℕ) → NoDuplicates cs → held cs g ≡ Some o → (o.name == n) ≡ false →
    owner_of (without g cs) n ≡ owner_of cs n
owner_without g o cs = read_without owners cs g o

-- ---- the slots that are taken

abbrev Counted : ℕ → List Cell → Type 0
Counted d cs = (ms : List ℕ) → NoDuplicates cs → Once ms → ((m : ℕ) → is_among m ms ≡ holds_slot d (service_of cs (message_name m)).sender) →
    ((n : ℕ) → n < 4096 → holds_slot d (service_of cs n).sender ≡ false) → length ms ≡ slots_taken d cs

module _ (d : ℕ) (c : Cell) (cs : List Cell) (ms : List ℕ) (no_duplicates : NoDuplicates (c ∷ cs)) (once : Once ms) (same : (m : ℕ) → is_among m ms ≡ holds_slot d (service_of
    (c ∷ cs) (message_name m)).sender) (silent : (n : ℕ) → n < 4096 → holds_slot d (service_of (c ∷ cs) n).sender ≡ false) (rest : Counted d cs) where
  abbrev k : ℕ
  k = c.object.name

  -- nothing behind it has its name
  own : (n : ℕ) → (k == n) ≡ true → holds_slot d (service_of cs n).sender ≡ false
  own n e = grind (arith, nat_tests, eqb-true, service_unnamed)

  behind : holds_slot d c.service.sender ≡ false → (n : ℕ) → holds_slot d (service_of (c ∷ cs) n).sender ≡ holds_slot d (service_of cs n).sender
  behind none n = grind (arith, nat_tests, own n)

  -- it is the message of that place
  module _ (holds : holds_slot d c.service.sender ≡ true) (m : ℕ) (name : k ≡ message_name m) where
    there : is_among m ms ≡ true
    there = same m ∙ ap (λ b. holds_slot d (cond b c.service (service_of cs (message_name m))).sender) (eq-eqb k (message_name m) name) ∙ holds

    others : (j : ℕ) (b : Bool) → (m == j) ≡ b → is_among j (filter (is_other m) ms) ≡ holds_slot d (service_of cs (message_name j)).sender
    others j true e = grind (arith, nat_tests, eqb-true, among_parted, own, eq-eqb)
    others j false e = grind (arith, nat_tests, among_others j, names_apart)

    silent_behind : (n : ℕ) → n < 4096 → holds_slot d (service_of cs n).sender ≡ false
    silent_behind n small =
        sym (ap (λ b. holds_slot d (cond b c.service (service_of cs n)).sender) (ne_eqb k n (λ at. absurd (omega (arith, at, small, name))))) ∙ silent n small

    one_more : length ms ≡ suc (slots_taken d cs)
    one_more =
        let less = rest (filter (is_other m) ms) no_duplicates.2 (once_without m ms once) (λ j. others j (m == j) refl) silent_behind in
        length_without m ms once ∙ ap (λ b. length (filter (is_other m) ms) + cond b 1 0) there ∙ omega (arith, less)

  counted_on : (b : Bool) → holds_slot d c.service.sender ≡ b → (k < 4096) ⊎ (4096 ≤ k) → length ms ≡ cond b (suc (slots_taken d cs)) (slots_taken d cs)
  counted_on false e x = rest ms no_duplicates.2 once (λ j. same j ∙ behind e (message_name j)) (λ n small. sym (behind e n) ∙ silent n small)
  counted_on true e (inl small) =
      absurd (false≢true (sym (silent k small) ∙ ap (λ b. holds_slot d (cond b c.service (service_of cs k)).sender) (eq-eqb k k refl) ∙ e))
  counted_on true e (inr large) = one_more e (k - 4096) (omega (arith, large))

-- are those of the messages that hold one
counted : (d : ℕ) (cs : List Cell) → Counted d cs
counted d [] [] no_duplicates once same silent = refl
counted d [] (m ∷ ms) no_duplicates once same silent = absurd (false≢true (sym (same m) ∙ ap (λ b. b || is_among m ms) (eq-eqb m m refl)))
counted d (c ∷ cs) ms no_duplicates once same silent =
    counted_on d c cs ms no_duplicates once same silent (counted d cs) (holds_slot d c.service.sender) refl (cases_lt c.object.name 4096)

pub slots_so : (s : kept.ClientsState) (cs : List Cell) (clients : List Client) → SameClients s cs clients → NoDuplicates cs → (d : ℕ) →
    length (kept.sent_at s d) ≡ slots_taken d cs
slots_so s cs clients same no_duplicates d = counted d cs (kept.sent_at s d) no_duplicates (same.once d) (slots_of s cs clients same d) (λ n small. same.silent n d small)

-- ---- a message is completed

-- the cell of that number goes from its place; it has no queue and no sessions, and no queue has it
module _ (s : kept.ClientsState) (cs : List Cell) (clients : List Client) (same : SameClients s cs clients) (no_duplicates : NoDuplicates cs) (m : ℕ) (place : m < length s.places)
    (g : Owner) (o : Object) (there : held cs g ≡ Some o) (name : o.name ≡ message_name m) (plain : ((service_of cs (message_name m)).queue ≡ []) ×
    ((service_of cs (message_name m)).sessions ≡ [])) (nowhere : (n : ℕ) → list_any (is_message (message_name m)) (service_of cs n).queue ≡ false) where
  abbrev then : kept.ClientsState
  then = kept.after_complete m s

  abbrev left : List Cell
  left = without g cs

  gone : service_of left (message_name m) ≡ unserved
  gone = ap (λ n. service_of left n) (sym name) ∙ service_unnamed left o.name (unnamed cs g o no_duplicates there)

  -- what holds where nothing is, and of all others
  by_gone : (P : ℕ → Service → Type 0) → P (message_name m) unserved → ((n : ℕ) → (message_name m == n) ≡ false → P n (service_of cs n)) →
      (n : ℕ) → P n (service_of left n)
  by_gone P here others n = grind (arith, nat_tests, eqb-true, gone, service_without, there, others n)

  places_at : (j : ℕ) → kept.place_at then j ≡ cond (m == j) Free (kept.place_at s j)
  places_at j = at_set Free s.places m j Free place

  sent_of : (d : ℕ) → kept.sent_at then d ≡ filter (is_other m) (kept.sent_at s d)
  sent_of d = get_or-map (filter (is_other m)) s.sent d []

  among_then : (d j : ℕ) → (m == j) ≡ false → is_among j (kept.sent_at then d) ≡ is_among j (kept.sent_at s d)
  among_then d j other = ap (λ l. is_among j l) (sent_of d) ∙ among_others j m (kept.sent_at s d) other

  -- what is told of another message is as it was
  apart : (j : ℕ) → (m == j) ≡ false → service_of left (message_name j) ≡ service_of cs (message_name j)
  apart j other = service_without cs g o (message_name j) no_duplicates there (ap (λ k. k == message_name j) name ∙ names_apart m j other)

  queues_then : (n : ℕ) → map (asked_by then.places) (kept.queue_at s n) ≡ (service_of left n).queue
  queues_then n = asked_apart s.places m Free place (kept.queue_at s n) (ap (λ l. list_any (is_message (message_name m)) l) (same.queues n) ∙ nowhere n)
      ∙ same.queues n ∙ by_gone (λ n v. (service_of cs n).queue ≡ v.queue) plain.0 (λ n other. refl) n

  senders_then : (j : ℕ) → sent_by (holds then j) (kept.place_at then j) ≡ (service_of left (message_name j)).sender
  senders_then j = grind (arith, nat_tests, places_at j, eqb-true m j, gone, among_then, apart j)

  waits_then : (j : ℕ) → is_queued (kept.place_at then j) ≡ waits_in (owner_of left (message_name j))
  waits_then j = grind (arith, nat_tests, places_at j, eqb-true m j, owner_unnamed, unnamed cs g o no_duplicates there, owner_without g o cs, names_apart m j)

  out_then : (d j : ℕ) → is_among j (kept.sent_at then d) ≡ true → is_out_of d (kept.place_at then j) ≡ true
  out_then d j h = grind (arith, nat_tests, sent_of d, eqb-true m j, among_parted m, places_at j, among_then d j, same.out d j)

  slotted_then : (j d : ℕ) → kept.place_at then j ≡ Queued d → is_among j (kept.sent_at then d) ≡ true
  slotted_then j d e = grind (arith, nat_tests, queued_still (m == j), places_at j, among_then d j)

  pub same_completed : SameClients then left clients
  same_completed = record {
    at = same.at;
    queues = queues_then;
    sessions = λ n. same.sessions n ∙ by_gone (λ n v. (service_of cs n).sessions ≡ v.sessions) plain.1 (λ n other. refl) n;
    senders = senders_then;
    waits = waits_then;
    out = out_then;
    slotted = slotted_then;
    once = λ d. subst Once (sym (sent_of d)) (once_without m (kept.sent_at s d) (same.once d));
    silent = λ n d small. by_gone (λ n v. n < 4096 → holds_slot d v.sender ≡ false) (λ low. refl) (λ n other. same.silent n d) n small;
    many = same.many;
    lists = length-map s.sent (λ ms. filter (is_other m) ms) ∙ same.lists;
  }
