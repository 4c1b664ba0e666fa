-- What a client does is refused on both sides alike, and what stands for clients goes on through it: command by command.
use Rattle.std.proofs.lemmas.Bool.Decides.{nat_tests}
use Rattle.std.proofs.Common.{Bool, List, None, Option, Some, [], ap, cond, false, length, map, refl}
use Rattle.std.proofs.Common.{subst, suc, sym, true, ℕ, ℤ, ◌&&◌, ◌+◌, ◌<◌, ◌∙◌, ◌∷◌, ◌≡◌, arith}
use Rattle.std.specs.Prelude.{filter, is_some, nat_lt, option_map}
use Rattle.std.proofs.lemmas.Bool.{false≢true}
use Rattle.std.proofs.lemmas.List.{length-map}
use Rattle.aom_clients.specs.Clients as kept
use Rattle.aom_clients.specs.Table.{row}
use Rattle.aom_clients.specs.declared.client.Client.{Client}
use Rattle.aom_clients.specs.declared.client.Client.TheVariants.{Closing, Connecting, Dead, Dying, Gone, Open, Unconnected}
use Rattle.aom_clients.specs.declared.entry.QueueEntry.{QueueEntry}
use Rattle.aom_clients.specs.declared.entry.QueueEntry.TheVariants as entry
use Rattle.aom_clients.specs.declared.place.MessagePlace.{MessagePlace}
use Rattle.aom_clients.specs.declared.refusal.CommandRefusal.{CommandRefusal}
use Rattle.aom_clients.specs.declared.refusal.CommandRefusal.TheVariants.{ServerBusy}
use Rattle.aom_clients.specs.declared.server.Server.{Server}
use Rattle.aom_image.specs.Image.{Image}
use Rattle.aom_image.specs.declared.method.Thing.{Thing}
use Rattle.aom_image.specs.declared.method.Thing.TheVariants.{Object as An_object_of}
use Rattle.aom_roles.specs.Shapes.{kind_of}
use Rattle.aom_typing_rules.specs.Typing.{Typing}
use Rattle.aom_machine_state.proofs.SafetyLemmas.{a_cell_of, asked_there, cell_of, cell_placed, held_cell, named_cell, named_filtered_cells, object_in, server_there}
use Rattle.aom_machine_state.proofs.SafetyLemmas.{tidy_filtered_cells, waiting_well, withdrawn_so}
use Rattle.aom_semantics.specs.Clients.{Listed, asked_server, client_at, commanded, connecting, count_messages, is_of_class}
use Rattle.aom_semantics.specs.Clients.{leaving, most_of, refusal, room, sending, slots_of, reported, with_client}
use Rattle.aom_safety.specs.Kept.{ClientsFit}
use Rattle.aom_safety.specs.Laws.{IsWired}
use Rattle.aom_semantics.specs.Places.{Cell, Connect_of, Elsewhere, Object, Queued as Waits_at, NoDuplicates, held, named, service_of}
use Rattle.aom_semantics.specs.Servers.{asked_last, is_connect, is_from, is_queue, is_server, left_by, reserved, sessions_in_use, slots_taken, withdrawn}
use Rattle.aom_semantics.specs.State.{State}
use Rattle.aom_safety.specs.WellTyped.{WellTyped}
use Rattle.aom_transcript.specs.declared.event.ClientCommand.TheVariants.{Close, Connect, Die, Send}
use Rattle.aom_machine_state.proofs.Completing.{slots_so}
use Rattle.aom_machine_state.proofs.Premises.{free_nowhere, messages_wait, queue_empty}
use Rattle.aom_machine_state.proofs.Serving.{same_connecting, same_sent}
use Rattle.aom_machine_state.proofs.Withdrawing.{queue_owner, same_left}
use Rattle.aom_machine_state.specs.Serving.{AreSized, SameClients, asked_by, message_name, sessionless}

-- ---- what a client may do does not depend on the cell of its session

row_connect : (x : Client) → (row (sessionless x)).connect ≡ (row x).connect
row_connect x = grind arith

pub row_close : (x : Client) → (row (sessionless x)).close ≡ option_map sessionless (row x).close
row_close x = grind arith

pub row_die : (x : Client) → (row (sessionless x)).die ≡ option_map sessionless (row x).die
row_die x = grind arith

-- ---- the seats of a server

connects_counted : (places : List MessagePlace) (es : List QueueEntry) → length (filter kept.is_connect es) ≡ length (filter is_connect (map (asked_by places) es))
connects_counted places [] = refl
connects_counted places (entry.Connect c ∷ es) = ap suc (connects_counted places es)
connects_counted places (_ ∷ es) = connects_counted places es

pub owned_objects_counted : (k : kept.ClientsState) (cs : List Cell) (clients : List Client) →
    SameClients k cs clients → (n : ℕ) → length (kept.sessions_at k n) + length (filter kept.is_connect (kept.queue_at k n)) ≡ sessions_in_use (service_of cs n)
owned_objects_counted k cs clients same n = grind (arith, nat_tests, connects_counted k.places)

-- the server that the machine found, with the most sessions that its class takes
abbrev pub found_server : ℕ → Option Listed → Option Server
found_server most None = None
found_server most (Some x) = Some (record { cell = x.name; most = most })

module _ (p : Image) (c : ℕ) (s : State) (k : kept.ClientsState) (same : SameClients k s.cells s.clients) where
  -- a connect is refused on both sides alike
  pub connect_refused : (class slots : ℕ) →
      kept.connect_refusal c (found_server (most_of (kind_of p (Some class))) (asked_server p class s.cells)) k ≡ refusal p c s (Connect class slots)
  connect_refused class slots = grind (arith, nat_tests, row_connect, owned_objects_counted k s.cells s.clients same)

  -- and so is a send, where a place is found while fewer messages are kept than may be
  pub send_refused : NoDuplicates s.cells → (words : List ℤ) (place : Option ℕ) → is_some place ≡ nat_lt (count_messages s.cells) p.header.messages →
      kept.send_refusal c place k ≡ refusal p c s (Send words)
  send_refused no_duplicates words place found = grind (arith, nat_tests, slots_so k s.cells s.clients same no_duplicates c)

-- ---- commands

-- servers that live are among the cells that there may be
module _ (p : Image) (t : Typing) (wired : IsWired p) (s : State) (w : WellTyped p t s)
    (fit : ClientsFit p s.clients s.cells) (k : kept.ClientsState) (same : SameClients k s.cells s.clients) (cells : ℕ) (sized : AreSized cells k)
    (below : (o : Object) → named s.cells o.name ≡ Some o → is_server p o.thing ≡ true → o.name < cells) (c : ℕ) (client : c < 64) where
  abbrev After : kept.ClientsState → State → Type 0
  After k' s' = SameClients k' s'.cells s'.clients

  -- ---- a connect

  asked_serves : (class : ℕ) (x : Listed) → asked_server p class s.cells ≡ Some x → is_server p (An_object_of class) ≡ true
  asked_serves class x e = grind (arith, nat_tests)

  serves_class : (class : ℕ) (y : Thing) → is_of_class class y ≡ true → is_server p (An_object_of class) ≡ true → is_server p y ≡ true
  serves_class class x of serves = grind arith

  pub same_connect : (class slots name : ℕ) → After (kept.after_connect c
      (found_server (most_of (kind_of p (Some class))) (asked_server p class s.cells)) slots k) (commanded p c s (Connect class slots) name)
  same_connect class slots name = subst (λ r. After (kept.connecting r c (found_server (most_of (kind_of p (Some class))) (asked_server p class s.cells))
      slots k) (connecting p c s (refusal p c s (Connect class slots)) (asked_server p class s.cells) slots)) (sym (connect_refused p c s k same class slots))
      (go (refusal p c s (Connect class slots)) (asked_server p class s.cells) refl)
    where
      go : (r : Option CommandRefusal) (x : Option Listed) → asked_server p class s.cells ≡ x →
          After (kept.connecting r c (found_server (most_of (kind_of p (Some class))) x) slots k) (connecting p c s r x slots)
      go (Some r) x e = same
      go None None e = same
      go None (Some x) e =
          let l = asked_there p class s.cells x w.good.no_duplicates e in
          subst (λ n. SameClients (kept.queued n (entry.Connect c) (kept.with_client c (Connecting n slots) k))
          (reserved (asked_last (Connect_of c)) n s.cells) (with_client c (Connecting n slots) s.clients)) l.1 (same_connecting k s.cells s.clients same l.0 l.2
          c client slots (subst (λ n. l.0.name < n) (sym sized.queues) (below l.0 l.2 (serves_class class l.0.thing l.3 (asked_serves class x e)))))

  -- ---- a send

  -- the server at which it is open
  server_open : (n session slots : ℕ) → kept.client_at k c ≡ Open n session slots →
      (o : Object) × (o.name ≡ n) × (named s.cells o.name ≡ Some o) × (is_server p o.thing ≡ true)
  server_open n session slots at = grind (arith, nat_tests, server_there p c s w.good.no_duplicates fit n)

  pub same_send : (words : List ℤ) (place : Option ℕ) →
      is_some place ≡ nat_lt (count_messages s.cells) p.header.messages → ((m : ℕ) → place ≡ Some m → (m < 1024) × (named s.cells (message_name m) ≡ None)) →
      (name : ℕ) → ((m : ℕ) → place ≡ Some m → name ≡ message_name m) → After (kept.after_send c place k) (commanded p c s (Send words) name)
  same_send words place found free name called = subst (λ r. After (kept.sending r (kept.client_at k c) c place k)
      (sending p c s (refusal p c s (Send words)) (client_at s.clients c) name words)) (sym (send_refused p c s k same w.good.no_duplicates words place found))
      (subst (λ y. After (kept.sending (refusal p c s (Send words)) (kept.client_at k c) c place k) (sending p c s (refusal p c s (Send words)) y name words))
      (same.at c) (go (refusal p c s (Send words)) refl (kept.client_at k c) refl place refl))
    where
      -- with no place it is refused
      refused : refusal p c s (Send words) ≡ None → place ≡ None → ⊥
      refused e none = by (row (client_at s.clients c)).send
          (ap (λ b. cond (nat_lt (slots_taken c s.cells) (slots_of (client_at s.clients c)) && b) None (Some ServerBusy)) (sym found ∙ ap is_some none)) e
        where
          never : (a : Bool) → cond (a && false) None (Some ServerBusy) ≡ None → ⊥
          never x e = grind arith

          by : (r : Option CommandRefusal) → cond
              (nat_lt (slots_taken c s.cells) (slots_of (client_at s.clients c)) && nat_lt (count_messages s.cells) p.header.messages) None (Some ServerBusy)
              ≡ cond (nat_lt (slots_taken c s.cells) (slots_of (client_at s.clients c)) && false) None (Some ServerBusy) → room p c s r ≡ None → ⊥
          by x reported e = grind arith

      go : (r : Option CommandRefusal) → refusal p c s (Send words) ≡ r →
          (x : Client) → kept.client_at k c ≡ x → (y : Option ℕ) → place ≡ y → After (kept.sending r x c y k) (sending p c s r (sessionless x) name words)
      go None e (Open n session slots) at (Some m) here =
          let o = server_open n session slots at in
          let f = free m here in
          subst (λ i. After (kept.sending None (Open n session slots) c (Some m) k) (sending p c s None (Open n 0 slots) i words)) (sym (called m here))
          (subst (λ i. After (kept.sending None (Open i session slots) c (Some m) k) (sending p c s None (Open i 0 slots) (message_name m) words)) o.1
          (same_sent k s.cells s.clients same o.0 o.2 c client m words (subst (λ i. o.0.name < i) (sym sized.queues) (below o.0 o.2 o.3))
          (subst (λ i. m < i) (sym sized.places) f.0) f.1 (free_nowhere p t wired s w s.clients fit (message_name m) f.1)))
      go None e (Open n session slots) at None here = absurd (refused e here)
      go None e Unconnected at y here = same
      go None e (Connecting n slots) at y here = same
      go None e (Closing n session) at y here = same
      go None e Gone at y here = same
      go None e Dead at y here = same
      go None e (Dying n session) at y here = same
      go (Some r) e x at y here = same

  -- ---- a close or a death

  tidy_left : NoDuplicates (withdrawn c s.cells)
  tidy_left = subst NoDuplicates (sym (withdrawn_so c s.cells))
      (tidy_filtered_cells (λ x. is_queue x.owner && is_from c x.service.sender) (λ x. left_by c x.service) s.cells w.good.no_duplicates)

  -- a server stays
  server_stays : (o : Object) → named s.cells o.name ≡ Some o → is_server p o.thing ≡ true → named (withdrawn c s.cells) o.name ≡ Some o
  server_stays o lives serves =
      let z = a_cell_of (cell_of s.cells o.name) o (sym (named_cell s.cells o.name) ∙ lives) in
      ap (λ l. named l o.name) (withdrawn_so c s.cells) ∙ named_filtered_cells (λ x. is_queue x.owner && is_from c x.service.sender)
      (λ x. left_by c x.service) s.cells w.good.no_duplicates o.name z.0 z.1 (stays z.0 z.1 z.2 (is_queue z.0.owner) refl) ∙ ap (λ y. Some y) z.2
    where
      stays : (x : Cell) → cell_of s.cells o.name ≡ Some x → x.object ≡ o → (b : Bool) → is_queue x.owner ≡ b →
          (is_queue x.owner && is_from c x.service.sender) ≡ false
      stays x e is false f = ap (λ b. b && is_from c x.service.sender) f
      stays x e is true f =
          let q = queue_owner x.owner f in
          let there : held s.cells (Elsewhere (Waits_at q.0 q.1)) ≡ Some x.object =
          ap (held s.cells) (sym q.2) ∙ held_cell s.cells x.owner ∙ ap object_in (cell_placed s.cells o.name x w.good.no_duplicates e) in
          absurd (false≢true (sym (waiting_well p t wired s w q.0 q.1 x.object there) ∙ ap (λ (y : Object). is_server p y.thing) is ∙ serves))

  left_by_row : (to : Option Client) → After (kept.leaving to c k) (leaving p c s (option_map sessionless to))
  left_by_row None = same
  left_by_row (Some to) = same_left k s.cells s.clients same w.good.no_duplicates c client (queue_empty p t wired s w s.clients fit)
      (messages_wait p t wired s w s.clients fit k same) p s to tidy_left (λ n session slots at. let o = server_open n session slots at in (
        o.0,
        o.1,
        server_stays o.0 o.2 o.3,
        subst (λ i. o.0.name < i) (sym (length-map k.queues (λ es. filter (λ e. kept.stays c k.places e) es) ∙ sized.queues)) (below o.0 o.2 o.3),
      ))

  pub same_close : (name : ℕ) → After (kept.after_close c k) (commanded p c s Close name)
  same_close name = subst (λ to. After (kept.after_close c k) (leaving p c s to))
      (sym (row_close (kept.client_at k c)) ∙ ap (λ x. (row x).close) (same.at c)) (left_by_row (row (kept.client_at k c)).close)

  pub same_die : (name : ℕ) → After (kept.after_die c k) (commanded p c s Die name)
  same_die name = subst (λ to. After (kept.after_die c k) (leaving p c s to)) (sym (row_die (kept.client_at k c)) ∙ ap (λ x. (row x).die) (same.at c))
      (left_by_row (row (kept.client_at k c)).die)
