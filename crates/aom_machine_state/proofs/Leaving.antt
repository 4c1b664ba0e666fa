-- The messages that a client leaves as it closes or dies, and those in the queue of a server that goes, are kept no more: what is kept stands for what is left.
use Rattle.std.proofs.lemmas.Bool.Decides.{nat_tests}
use Rattle.std.proofs.Common.{Bool, List, None, Option, Some, [], ap, arith, false, inl, inr, length, map}
use Rattle.std.proofs.Common.{refl, subst, sym, true, ℕ, ◌&&◌, ◌+◌, ◌<◌, ◌==◌, ◌≤◌, ◌∙◌, ◌∷◌, ◌≡◌, ◌⊎◌}
use Rattle.std.specs.List.{list_any}
use Rattle.std.specs.Prelude.{filter, is_some, not, ◌-◌, ◌||◌}
use Rattle.std.proofs.lemmas.Bool.{and_parts, cases_lt, eq-eqb, eqb-true, false≢true}
use Rattle.aom_machine_state.proofs.ClientsLemmas.{queued-of}
use Rattle.aom_clients.specs.Clients as kept
use Rattle.aom_clients.specs.Table.{is_queued}
use Rattle.aom_clients.specs.declared.client.Client.{Client}
use Rattle.aom_clients.specs.declared.entry.QueueEntry.{QueueEntry}
use Rattle.aom_clients.specs.declared.entry.QueueEntry.TheVariants.{Message}
use Rattle.aom_clients.specs.declared.place.MessagePlace.{MessagePlace}
use Rattle.aom_clients.specs.declared.place.MessagePlace.TheVariants.{Queued}
use Rattle.aom_image.specs.Image.{Image}
use Rattle.aom_roles.specs.Things.{is_object}
use Rattle.aom_cells.specs.Store.{Store, count, message_at}
use Rattle.aom_roles.specs.Shapes.{kind_of}
use Rattle.aom_typing_rules.specs.Typing.{Typing}
use Rattle.aom_machine_state.proofs.SafetyLemmas.{a_cell_of, cell_in, cell_lives, cell_name, cell_of, cell_owner, cell_placed, from_some, held_cell, named_cell}
use Rattle.aom_machine_state.proofs.SafetyLemmas.{object_in, request_in, requested_cell, service_cell, service_in, unqueued_so}
use Rattle.aom_machine_state.proofs.SafetyLemmas.{waiting_message as queued_message, withdrawn_so}
use Rattle.aom_safety.specs.Kept.{ClientsFit, QueueFits}
use Rattle.aom_safety.specs.Laws.{IsWired}
use Rattle.aom_semantics.specs.Places.{Cell, Elsewhere, Object, Place as Owner, Queued as Waits_at, Sender, Service, held, service_of}
use Rattle.aom_semantics.specs.Servers.{has_message, holds_slot, is_among, is_from, is_message, is_queue, is_queue_of, left_by, withdrawn, without_queue}
use Rattle.aom_semantics.specs.State.{State}
use Rattle.aom_safety.specs.WellTyped.{WellTyped}
use Rattle.aom_machine_state.proofs.Beside.{Beside, beside_filtered_cells, holds_filtered_cells}
use Rattle.aom_machine_state.proofs.Departing.{is_at}
use Rattle.aom_machine_state.proofs.Forgetting.{Forgets, messages_filtered_cells}
use Rattle.aom_machine_state.proofs.Premises.{asked_there, asking, waiting_there}
use Rattle.aom_machine_state.proofs.Reported.{Reported_alike, reported_filtered_cells, unreported_sent}
use Rattle.aom_machine_state.proofs.Reclaiming.{asks_message}
use Rattle.aom_machine_state.proofs.Withdrawing.{owner_cell, owner_in, queue_owner, queue_of_owner, queue_of_queue}
use Rattle.aom_machine_state.specs.Messages.{SameMessages, is_a_message}
use Rattle.aom_machine_state.specs.Serving.{Once, SameClients, asked_by, holds, message_name, owner_of, sent_by, waits_in}

-- once the messages at these places are kept no more, what was kept for the cells before is kept for those after
abbrev Taking : Image → List ℕ → List Cell → List Cell → Type 0
Taking p ms was left = (before after : Store) → ((m : ℕ) → is_among m ms ≡ true → message_at after m ≡ None) → ((m : ℕ) → is_among m ms ≡ false → message_at
    after m ≡ message_at before m) → after.limit ≡ before.limit → count after + length ms ≡ count before → SameMessages p before was → SameMessages p after left

-- ---- places

-- those of the messages among these entries
abbrev pub places_in : List QueueEntry → List ℕ
places_in [] = []
places_in (Message m ∷ es) = m ∷ places_in es
places_in (_ ∷ es) = places_in es

pub among_places : (es : List QueueEntry) (m : ℕ) → is_among m (places_in es) ≡ list_any (is_at m) es
among_places [] m = refl
among_places (Message k ∷ es) m = ap (λ b. (k == m) || b) (among_places es m)
among_places (_ ∷ es) m = among_places es m

among_filtered : (test : ℕ → Bool) (ms : List ℕ) (j : ℕ) → is_among j (filter test ms) ≡ (test j && is_among j ms)
among_filtered test [] j = grind (arith, nat_tests)
among_filtered test (m ∷ ms) j = grind (arith, nat_tests, among_filtered test ms j, eqb-true m j)

once_filtered : (test : ℕ → Bool) (ms : List ℕ) → Once ms → Once (filter test ms)
once_filtered test [] once = tt
once_filtered test (m ∷ ms) once = grind (arith, nat_tests, once_filtered test ms once.1, among_filtered test ms m)

-- no message waits twice
once_asked : (clients : List Client) (n : ℕ) (places : List MessagePlace) (es : List QueueEntry) →
    QueueFits clients n (map (asked_by places) es) → Once (places_in es)
once_asked clients n places [] fits = tt
once_asked clients n places (Message m ∷ es) fits = (among_places es m ∙ sym (asks_message places es m) ∙ fits.0.1, once_asked clients n places es fits.1)
once_asked clients n places (_ ∷ es) fits = once_asked clients n places es fits.1

-- ---- what goes

module _ (p : Image) (t : Typing) (wired : IsWired p) (s : State) (w : WellTyped p t s) (fit : ClientsFit p s.clients s.cells) (k : kept.ClientsState)
    (same : SameClients k s.cells s.clients) where
  -- what a queue owns is a message
  waiting_message : (n : ℕ) (x : Cell) → cell_of s.cells n ≡ Some x → is_queue x.owner ≡ true → is_object x.object.thing ≡ false
  waiting_message n x e h =
      let q = queue_owner x.owner h in
      let there : held s.cells (Elsewhere (Waits_at q.0 q.1)) ≡ Some x.object = ap (held s.cells) (sym q.2) ∙ held_cell s.cells x.owner
      ∙ ap object_in (cell_placed s.cells n x w.good.no_duplicates e) in
      ap is_object (queued_message p t wired s w q.0 q.1 x.object there)

  -- and its number is past those of cells
  message_place : (before : Store) → SameMessages p before s.cells → (n : ℕ) (x : Cell) → cell_of s.cells n ≡ Some x → is_queue x.owner ≡ true →
      (m : ℕ) × (n ≡ message_name m)
  message_place before kept_so n x e h = go (cases_lt n (message_name 0))
    where
      go : (n < message_name 0) ⊎ (message_name 0 ≤ n) → (m : ℕ) × (n ≡ message_name m)
      go (inl small) =
          absurd (false≢true (sym (kept_so.past n small) ∙ ap is_a_message (named_cell s.cells n ∙ ap object_in e) ∙ ap not (waiting_message n x e h)))
      go (inr large) = (n - message_name 0, omega (arith, large))

  owner_there : (n : ℕ) (x : Cell) → cell_of s.cells n ≡ Some x → owner_of s.cells n ≡ Some x.owner
  owner_there n x e = owner_cell s.cells n ∙ ap owner_in e

  cell_there : (n : ℕ) → waits_in (owner_of s.cells n) ≡ true → (x : Cell) × (cell_of s.cells n ≡ Some x) × (is_queue x.owner ≡ true)
  cell_there n h = grind (arith, nat_tests, cell_of s.cells n, owner_cell s.cells n, owner_in (cell_of s.cells n))

  -- ---- a client leaves

  -- a message that is forgotten was kept
  forgotten_kept : {drops : Cell → Bool} {f : Cell → Service} {ms : List ℕ} {before : Store} →
      Forgets drops f ms s.cells → SameMessages p before s.cells → (m : ℕ) → is_among m ms ≡ true → is_some (message_at before m) ≡ true
  forgotten_kept goes kept_so m h = grind (arith, nat_tests, named_cell s.cells, object_in)

  module _ (c : ℕ) where
    abbrev drops : Cell → Bool
    drops x = is_queue x.owner && is_from c x.service.sender

    abbrev freed : List ℕ
    freed = filter (λ m. is_queued (kept.place_at k m)) (kept.sent_at k c)

    among_freed : (m : ℕ) → is_among m freed ≡ (is_queued (kept.place_at k m) && is_among m (kept.sent_at k c))
    among_freed m = among_filtered (λ m. is_queued (kept.place_at k m)) (kept.sent_at k c) m

    pub freed_once : Once freed
    freed_once = once_filtered (λ m. is_queued (kept.place_at k m)) (kept.sent_at k c) (same.once c)

    from_slot : (x : Option Sender) → holds_slot c x ≡ true → is_from c x ≡ true
    from_slot x h = grind arith

    forgets : (before : Store) → SameMessages p before s.cells → Forgets drops (λ x. left_by c x.service) freed s.cells
    forgets before kept_so = record { goes = goes; gone = gone }
      where
        goes : (m : ℕ) → is_among m freed ≡ true → (x : Cell) × (cell_of s.cells (message_name m) ≡ Some x) × (drops x ≡ true) × (is_object x.object.thing ≡ false)
        goes m h = grind (arith, nat_tests, among_freed m, cell_there, from_slot, service_cell s.cells, service_in, waiting_message)

        gone : (n : ℕ) (x : Cell) → cell_of s.cells n ≡ Some x → drops x ≡ true → (m : ℕ) × (n ≡ message_name m) × (is_among m freed ≡ true)
        gone n x e h =
            let b = and_parts (is_queue x.owner) (is_from c x.service.sender) h in
            let m = message_place before kept_so n x e b.0 in
            let cell : cell_of s.cells (message_name m.0) ≡ Some x = ap (cell_of s.cells) (sym m.1) ∙ e in
            let waits : is_queued (kept.place_at k m.0) ≡ true = same.waits m.0 ∙ ap waits_in (owner_there (message_name m.0) x cell) ∙ b.0 in
            let from : is_from c (sent_by (holds k m.0) (kept.place_at k m.0)) ≡ true = ap (is_from c) (same.senders m.0)
            ∙ ap (λ (v : Service). is_from c v.sender) (service_cell s.cells (message_name m.0) ∙ ap service_in cell) ∙ b.1 in
            (m.0, m.1, among_freed m.0 ∙ ap (λ y. y && is_among m.0 (kept.sent_at k c)) waits ∙ held_slot m.0 waits from)
          where
            held_slot : (m : ℕ) → is_queued (kept.place_at k m) ≡ true → is_from c (sent_by (holds k m) (kept.place_at k m)) ≡ true →
                is_among m (kept.sent_at k c) ≡ true
            held_slot m h from =
                let x = queued-of (kept.place_at k m) h in
                same.slotted m c (x.1 ∙ ap Queued (eqb-true x.0 c (ap (λ y. is_from c (sent_by (holds k m) y)) (sym x.1) ∙ from)))

    -- the messages that it leaves are kept
    pub freed_kept : (before : Store) → SameMessages p before s.cells → (m : ℕ) → is_among m freed ≡ true → is_some (message_at before m) ≡ true
    freed_kept before kept_so = forgotten_kept (forgets before kept_so) kept_so

    pub messages_withdrawn : Taking p freed s.cells (withdrawn c s.cells)
    messages_withdrawn before after gone others limit fewer kept_so = subst (SameMessages p after) (sym (withdrawn_so c s.cells)) (messages_filtered_cells drops
        (λ x. left_by c x.service) p before after freed freed_once s.cells w.good.no_duplicates (forgets before kept_so) gone others limit fewer kept_so)

  -- ---- a server goes

  module _ (n : ℕ) where
    abbrev waiting : List ℕ
    waiting = places_in (kept.queue_at k n)

    asked_so : (m : ℕ) → is_among m waiting ≡ has_message (service_of s.cells n) (message_name m)
    asked_so m = among_places (kept.queue_at k n) m ∙ sym (asks_message k.places (kept.queue_at k n) m)
        ∙ ap (λ q. list_any (is_message (message_name m)) q) (same.queues n)

    pub waiting_once : Once waiting
    waiting_once = grind (arith, nat_tests, once_asked s.clients n k.places)

    unqueues : (before : Store) → SameMessages p before s.cells → Forgets (λ x. is_queue_of n x.owner) (λ x. x.service) waiting s.cells
    unqueues before kept_so = record { goes = goes; gone = gone }
      where
        goes : (m : ℕ) → is_among m waiting ≡ true → (x : Cell) × (cell_of s.cells (message_name m) ≡ Some x) × (is_queue_of n x.owner ≡ true)
            × (is_object x.object.thing ≡ false)
        goes m h =
            let y = waiting_there p t wired s w s.clients fit n (message_name m) (sym (asked_so m) ∙ h) in
            let z = a_cell_of (cell_in s.cells (Elsewhere (Waits_at n (message_name m)))) y.0
            (sym (held_cell s.cells (Elsewhere (Waits_at n (message_name m)))) ∙ y.1) in
            let place = cell_owner s.cells (Elsewhere (Waits_at n (message_name m))) z.0 z.1 in
            let here : is_queue_of n z.0.owner ≡ true = ap (is_queue_of n) place ∙ eq-eqb n n refl in
            let cell : cell_of s.cells (message_name m) ≡ Some z.0 = ap (cell_of s.cells) (sym (ap (λ (o : Object). o.name) z.2 ∙ y.2))
            ∙ cell_lives s.cells (Elsewhere (Waits_at n (message_name m))) z.0 w.good.no_duplicates z.1 in
            (z.0, cell, here, waiting_message (message_name m) z.0 cell (queue_of_queue n z.0.owner here))

        gone : (i : ℕ) (x : Cell) → cell_of s.cells i ≡ Some x → is_queue_of n x.owner ≡ true → (m : ℕ) × (i ≡ message_name m) × (is_among m waiting ≡ true)
        gone i x e h =
            let m = message_place before kept_so i x e (queue_of_queue n x.owner h) in
            let q = queue_of_owner n x.owner h in
            let there : held s.cells (Elsewhere (Waits_at n q.0)) ≡ Some x.object = ap (held s.cells) (sym q.1) ∙ held_cell s.cells x.owner
            ∙ ap object_in (cell_placed s.cells i x w.good.no_duplicates e) in
            let a = asked_there p t wired s w s.clients fit n q.0 x.object there in
            (m.0, m.1, asked_so m.0 ∙ ap (has_message (service_of s.cells n)) (sym m.1 ∙ sym (cell_name s.cells i x e) ∙ a.0) ∙ a.1)

    -- the messages in its queue are kept
    pub waiting_kept : (before : Store) → SameMessages p before s.cells → (m : ℕ) → is_among m waiting ≡ true → is_some (message_at before m) ≡ true
    waiting_kept before kept_so = forgotten_kept (unqueues before kept_so) kept_so

    pub messages_unqueued : Taking p waiting s.cells (without_queue n s.cells)
    messages_unqueued before after gone others limit fewer kept_so =
        subst (SameMessages p after) (sym (unqueued_so n s.cells)) (messages_filtered_cells (λ x. is_queue_of n x.owner)
        (λ x. x.service) p before after waiting waiting_once s.cells w.good.no_duplicates (unqueues before kept_so) gone others limit fewer kept_so)

  -- ---- all else stays where these messages go

  -- a message is not enlisted
  waiting_unasked : (n : ℕ) (x : Cell) → cell_of s.cells n ≡ Some x → is_queue x.owner ≡ true → x.request ≡ None
  unfolding kind_of
  waiting_unasked n x e h = grind (
    arith,
    nat_tests,
    requested_cell s.cells x.object.name,
    request_in,
    waiting_message n x e h,
    named_cell s.cells x.object.name,
    object_in,
    cell_of s.cells x.object.name,
    cell_lives s.cells x.owner x w.good.no_duplicates (cell_placed s.cells n x w.good.no_duplicates e),
    cell_placed s.cells n x w.good.no_duplicates e,
  )

  gone_message : (before : Store) → SameMessages p before s.cells →
      (n : ℕ) (x : Cell) → cell_of s.cells n ≡ Some x → is_queue x.owner ≡ true → (4096 ≤ n) × (is_object x.object.thing ≡ false) × (x.request ≡ None)
  gone_message before kept_so n x e h = let m = message_place before kept_so n x e h in let name = m.1 in
      (omega (arith, name), waiting_message n x e h, waiting_unasked n x e h)

  pub beside_withdrawn : (before : Store) → SameMessages p before s.cells → (c : ℕ) → Beside s.cells (withdrawn c s.cells)
  beside_withdrawn before kept_so c = subst (Beside s.cells) (sym (withdrawn_so c s.cells)) (beside_filtered_cells (drops c) (λ x. left_by c x.service) s.cells
      w.good.no_duplicates (λ n x e h. gone_message before kept_so n x e (and_parts (is_queue x.owner) (is_from c x.service.sender) h).0))

  pub beside_unqueued : (before : Store) → SameMessages p before s.cells → (n : ℕ) → Beside s.cells (without_queue n s.cells)
  beside_unqueued before kept_so n = subst (Beside s.cells) (sym (unqueued_so n s.cells))
      (beside_filtered_cells (λ x. is_queue_of n x.owner) (λ x. x.service) s.cells w.good.no_duplicates (λ i x e h. gone_message before kept_so i x e (queued x.owner h)))
    where
      queued : (q : Owner) → is_queue_of n q ≡ true → is_queue q ≡ true
      queued x h = grind arith

  -- what waits was sent, and is no token
  sent_unreported : (n : ℕ) (x : Cell) → cell_of s.cells n ≡ Some x → is_queue x.owner ≡ true → is_some x.service.sender ≡ true → x.service.token ≡ None
  sent_unreported n x e h sent = grind (
    arith,
    nat_tests,
    unreported_sent x.service,
    cell_of s.cells x.object.name,
    cell_lives s.cells x.owner x w.good.no_duplicates (cell_placed s.cells n x w.good.no_duplicates e),
    cell_placed s.cells n x w.good.no_duplicates e,
    service_cell s.cells x.object.name,
    service_in,
    named_cell s.cells x.object.name,
    object_in,
    waiting_message n x e h,
  )

  pub reported_withdrawn : (c : ℕ) → Reported_alike s.cells (withdrawn c s.cells)
  reported_withdrawn c = grind (arith, nat_tests, Reported_alike s.cells, withdrawn_so c s.cells, reported_filtered_cells, sent_unreported, from_some c)

  pub reported_unqueued : (before : Store) → SameMessages p before s.cells → (n : ℕ) → Reported_alike s.cells (without_queue n s.cells)
  reported_unqueued before kept_so n =
      subst (Reported_alike s.cells) (sym (unqueued_so n s.cells)) (reported_filtered_cells (λ x. is_queue_of n x.owner) (λ x. x.service) s.cells w.good.no_duplicates none (λ x. refl))
    where
      none : (i : ℕ) (x : Cell) → cell_of s.cells i ≡ Some x → is_queue_of n x.owner ≡ true → x.service.token ≡ None
      none i x e h =
          let m = (unqueues n before kept_so).gone i x e h in
          let c = asking (message_name m.0) (service_of s.cells n).queue (sym (asked_so n m.0) ∙ m.2) in
          let from = fit.senders n c.0 (message_name m.0) c.1 in
          let its : service_of s.cells (message_name m.0) ≡ x.service = service_cell s.cells (message_name m.0)
          ∙ ap service_in (ap (cell_of s.cells) (sym m.1) ∙ e) in
          sent_unreported i x e (queue_of_queue n x.owner h) (from_some c.0 x.service.sender (ap (λ (v : Service). is_from c.0 v.sender) (sym its) ∙ from))

  -- and what no queue owns
  pub holds_withdrawn : (c : ℕ) (r : Owner) → is_queue r ≡ false → held (withdrawn c s.cells) r ≡ held s.cells r
  holds_withdrawn c r apart = grind (arith, nat_tests, withdrawn_so c s.cells, holds_filtered_cells)

  pub holds_unqueued : (n : ℕ) (r : Owner) → is_queue r ≡ false → held (without_queue n s.cells) r ≡ held s.cells r
  holds_unqueued n r apart = grind (arith, nat_tests, unqueued_so n s.cells, holds_filtered_cells)
