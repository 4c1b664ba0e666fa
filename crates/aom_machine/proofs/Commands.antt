-- A command as the machine does it: its parts in one, from each state that the machine stands for.
use Rattle.std.proofs.lemmas.Bool.Decides.{nat_tests}
use Rattle.std.proofs.Common.{ap, arith, length, List, None, Option, refl, Some, subst, suc, sym, true, ℕ, ◌++◌, ◌<◌, ◌≤◌, ◌==◌, ◌∙◌, ◌∷◌, ◌≡◌, []}
use Rattle.std.specs.Prelude.{Err, IfSome, Ok, Result, is_some, nat_lt, option_map, ◌||◌}
use Rattle.std.proofs.lemmas.Bool.{eq-eqb, or_right}
use Rattle.std.proofs.lemmas.Option.{none-some, same_Some}
use Rattle.aom_active_objects.specs.Agrees.{Active}
use Rattle.aom_clients.specs.Clients as kept
use Rattle.aom_clients.specs.Nodes.{named_by}
use Rattle.aom_clients.specs.Table.{code_of}
use Rattle.aom_clients.specs.declared.client.Client.{Client}
use Rattle.aom_clients.specs.declared.client.Client.TheVariants.{Unconnected}
use Rattle.aom_clients.specs.declared.place.MessagePlace.TheVariants.{Free}
use Rattle.aom_clients.specs.declared.refusal.CommandRefusal.{CommandRefusal}
use Rattle.aom_image.specs.Image.{Image}
use Rattle.aom_cells.specs.Store.{Store, message_at}
use Rattle.aom_roles.specs.Shapes.{kind_of}
use Rattle.aom_semantics.specs.Clients.{Listed, asked_server, client_at, commanded, count_messages, most_of, refusal}
use Rattle.aom_semantics.specs.Lines.{refusal_line}
use Rattle.aom_semantics.specs.Places.{named}
use Rattle.aom_semantics.specs.Servers.{is_among, withdrawn}
use Rattle.aom_semantics.specs.State.{State}
use Rattle.aom_semantics.specs.World.{IsBetween}
use Rattle.aom_machine.proofs.SafetyLemmas.{service_unnamed}
use Rattle.aom_transcript.specs.declared.event.ClientCommand.{ClientCommand}
use Rattle.aom_transcript.specs.declared.event.ClientCommand.TheVariants.{Close, Connect, Die, Send}
use Rattle.aom_transcript.specs.declared.line.Line.{Line}
use Rattle.aom_transcript.specs.declared.line.Line.TheVariants.{Refuse}
use Rattle.aom_machine_state.specs.LineBuffer.{LineBuffer}
use Rattle.aom_machine.proofs.MachineStateLemmas.{SessionsSame, connect_refused, first_asked, found_server, freed_kept, freed_once, messages_withdrawn}
use Rattle.aom_machine.proofs.MachineStateLemmas.{same_close, same_connect, same_die, same_send, send_refused, sized_close, sized_connect, sized_die}
use Rattle.aom_machine.proofs.MachineStateLemmas.{sized_send, taken_sent}
use Rattle.aom_machine_state.specs.Messages.{SameMessages}
use Rattle.aom_machine_state.specs.Serving.{AreSized, Once, SameClients, message_name, sessionless}
use Rattle.aom_machine_state.specs.Stands.{MachineModel, Refines}
use Rattle.aom_machine_state.specs.declared.parts.Parts.{Parts}
use Rattle.aom_machine.proofs.Commanded.{Untouched, sessions_close, sessions_connect, sessions_die, sessions_send}
use Rattle.aom_machine.proofs.Executed.{executed_stands, servers_below, typed_now, v}
use Rattle.aom_machine.proofs.Executing.{messages_close, messages_connect, messages_die, messages_send, sent_free, sent_name, free_name}
use Rattle.aom_machine.specs.Servers.{NotesIf}
use Rattle.aom_machine.specs.Clients.{Acts, AreKept, CanAct, Forgets, IsInRange, Executed, asked_by, first_server, queue_changed}

-- the line of an answer
abbrev pub reported_refusal : ℕ → Result (Unit {0}) CommandRefusal → List Line
reported_refusal c (Ok u) = []
reported_refusal c (Err r) = Refuse c (code_of r) ∷ []

same_refusal : (c : ℕ) (r : Option CommandRefusal) → reported_refusal c (kept.answer r) ≡ refusal_line c r
same_refusal c x = grind arith

-- where a client is does not hang on the cell of its session
named_alike : (x : Client) → named_by (sessionless x) ≡ named_by x
named_alike x = grind arith

-- each of these is kept, and there once
all_kept : (store : Store) (ms : List ℕ) → Once ms → ((m : ℕ) → is_among m ms ≡ true → is_some (message_at store m) ≡ true) → AreKept store ms
all_kept store [] once each = tt
all_kept store (m ∷ ms) once each =
    (each m (ap (λ b. b || is_among m ms) (eq-eqb m m refl)), once.0, all_kept store ms once.1 (λ k e. each k (or_right (m == k) (is_among k ms) e)))

module _ (p : Image) (m : Parts) (s : State) (st : Refines (record { image = p; parts = m }) s) (idle : s.tasks ≡ []) (c : ℕ) (one : c < 64) where
  abbrev same : SameClients m.clients s.cells s.clients
  same = st.agrees.services.clients

  -- where the event is heard
  abbrev w : State
  w = v p m s st idle c

  few : c < length m.clients.clients
  few = omega (arith, one, same.many)

  -- the server that is found
  pub first_found : (class : ℕ) → first_server p m.listed class ≡ found_server (most_of (kind_of p (Some class))) (asked_server p class s.cells)
  first_found class = ap (λ o. option_map (λ n. record { cell = n; most = most_of (kind_of p (Some class)) }) o)
      (first_asked p m.listed s.cells st.typed.good.no_duplicates st.agrees.services.listed class) ∙ go (asked_server p class s.cells)
    where
      go : (x : Option Listed) → option_map (λ n. record { cell = n; most = most_of (kind_of p (Some class)) })
          (option_map (λ (y : Listed). y.name) x) ≡ found_server (most_of (kind_of p (Some class))) x
      go x = grind arith

  -- ---- what an act needs

  nothing_named : (k : ℕ) → message_at m.messages k ≡ None → named s.cells (message_name k) ≡ None
  nothing_named = free_name p m.cells m.messages s.cells st.agrees.cells st.sound.formed.header.cells st.agrees.services.messages

  no_message : (k : ℕ) → message_at m.messages k ≡ None → kept.place_at m.clients k ≡ Free
  no_message k none = grind (arith, nat_tests, taken_sent m.clients s.cells s.clients, service_unnamed s.cells, nothing_named k none)

  -- ---- what an act needs

  -- what a client leaves is kept
  freed_all : (to : Option Client) → AreKept m.messages (kept.freed to c m.clients)
  freed_all None = tt
  freed_all (Some to) =
      all_kept m.messages (kept.freed (Some to) c m.clients) (freed_once p st.typing st.sound.wired w (typed_now p m s st idle c) st.kept.fit m.clients same c)
      (λ k e. freed_kept p st.typing st.sound.wired w (typed_now p m s st idle c) st.kept.fit m.clients same c m.messages st.agrees.services.messages k e)

  pub can_act : (command : ClientCommand) → IsInRange command → CanAct c command m.clients m.messages
  can_act x ranged = grind (arith, nat_tests, no_message, freed_all)

  -- ---- what it comes to

  module _ (between : IsBetween s) (k : kept.ClientsState) (store : Store) (a : Active)
      (reported now : LineBuffer) (result : Result (Unit {0}) CommandRefusal) (lines : now ≡ record reported { lines = reported.lines ++ reported_refusal c result }) where
    abbrev old : MachineModel
    old = record { image = p; parts = m }

    abbrev new : MachineModel
    new = record { image = p; parts = record m { clients = k; messages = store; active = a; rest = record m.rest { delivered = suc m.rest.delivered } } }

    -- by what is made of clients and messages
    by_parts : (command : ClientCommand) (place : Option ℕ) → IfSome place (λ n. (n < 1024) × (message_at m.messages n ≡ None)) →
        result ≡ kept.answer (refusal p c s command) → (then : kept.ClientsState) → k ≡ then →
        SameClients then (commanded p c w command (sent_name place)).cells (commanded p c w command (sent_name place)).clients → AreSized p.header.cells then →
        SessionsSame m.clients then → SameMessages p store (commanded p c w command (sent_name place)).cells → (server : Option ℕ) →
        ((n : ℕ) → (server ≡ Some n → ⊥) → Untouched p c w command n) → NotesIf server k m.active a → Executed old s c command reported now new
    by_parts command place free answer then is clients sized sessions messages server touched observes =
        let unused = sent_free p m.cells m.messages s.cells st.agrees.cells st.sound.formed.header.cells st.agrees.services.messages place free in
        let clients_now =
        subst (λ x. SameClients x (commanded p c w command (sent_name place)).cells (commanded p c w command (sent_name place)).clients) (sym is) clients in
        let sized_now = subst (AreSized p.header.cells) (sym is) sized in
        let sessions_now = subst (SessionsSame m.clients) (sym is) sessions in (
          sent_name place,
          unused,
          record {
            between = between;
            state = commanded p c w command (sent_name place);
            goes = refl;
            lines = lines ∙ ap (λ ls. record reported { lines = reported.lines ++ ls }) (ap (reported_refusal c) answer ∙ same_refusal c (refusal p c s command));
            stands = executed_stands p m s st idle c command (sent_name place) unused
                (high place) k store a clients_now sized_now sessions_now messages server touched observes;
          },
        )
      where
        high : (place : Option ℕ) → 4096 ≤ sent_name place
        high x = grind arith

    -- the queue that is told of is the one that changes
    away_named : (n : ℕ) → (queue_changed None (kept.client_at m.clients c) ≡ Some n → ⊥) → named_by (client_at s.clients c) ≡ Some n → ⊥
    away_named n away e = away (sym (named_alike (kept.client_at m.clients c)) ∙ ap named_by (same.at c) ∙ e)

    -- what a client leaves is kept no more
    withdraws : Forgets (kept.freed (Some Unconnected) c m.clients) m.messages store → SameMessages p store (withdrawn c w.cells)
    withdraws f = messages_withdrawn p st.typing st.sound.wired w (typed_now p m s st idle c) st.kept.fit m.clients same c m.messages store f.gone f.others
        f.limit f.count st.agrees.services.messages

    pub executes : (command : ClientCommand) → Acts c command (asked_by p m.listed command) m.clients k m.messages store result →
        NotesIf (queue_changed (asked_by p m.listed command) (kept.client_at m.clients c)) k m.active a → Executed old s c command reported now new
    executes (Connect class slots) acts observes = by_parts (Connect class slots) None tt (acts.0 ∙ ap (λ x. kept.answer (kept.connect_refusal c x m.clients))
        (first_found class) ∙ ap kept.answer (connect_refused p c s m.clients same class slots)) (kept.after_connect c (found_server (most_of (kind_of p
        (Some class))) (asked_server p class s.cells)) slots m.clients) (acts.1 ∙ ap (λ x. kept.after_connect c x slots m.clients) (first_found class))
        (same_connect p st.typing st.sound.wired w (typed_now p m s st idle c) st.kept.fit m.clients same p.header.cells st.agrees.services.sized
        (servers_below p m s st idle c) c one class slots (sent_name None))
        (sized_connect p.header.cells m.clients st.agrees.services.sized c _ slots) (sessions_connect m.clients c _ slots few)
        (messages_connect p c w m.clients same m.messages store st.agrees.services.messages class slots (sent_name None) acts.2)
        (queue_changed (first_server p m.listed class) (kept.client_at m.clients c))
        (λ n away x asked name. away (ap (λ y. queue_changed y (kept.client_at m.clients c)) (first_found class)
        ∙ ap (λ y. queue_changed (found_server (most_of (kind_of p (Some class))) y) (kept.client_at m.clients c)) asked ∙ ap Some name)) observes
    executes (Send words) acts observes = by_parts (Send words) acts.place acts.free (acts.reported ∙ ap kept.answer alike) (kept.after_send c acts.place m.clients)
        acts.after_it (same_send p st.typing st.sound.wired w (typed_now p m s st idle c) st.kept.fit m.clients same p.header.cells st.agrees.services.sized
        (servers_below p m s st idle c) c one words acts.place found (by_place acts.place acts.free) (sent_name acts.place) (called acts.place)) (sized_send
        p.header.cells m.clients st.agrees.services.sized c acts.place) (sessions_send m.clients c acts.place) (messages_send p c w m.clients same m.messages
        store st.agrees.services.messages words acts.place acts.free alike acts.kept) (queue_changed None (kept.client_at m.clients c)) away_named observes
      where
        found : is_some acts.place ≡ nat_lt (count_messages s.cells) p.header.messages
        found = acts.found ∙ ap (λ n. nat_lt n m.messages.limit) st.agrees.services.messages.count
            ∙ ap (λ n. nat_lt (count_messages s.cells) n) st.agrees.services.messages.limit

        alike : kept.send_refusal c acts.place m.clients ≡ refusal p c s (Send words)
        alike = send_refused p c s m.clients same (typed_now p m s st idle c).good.no_duplicates words acts.place found

        by_place : (place : Option ℕ) → IfSome place (λ n. (n < 1024) × (message_at m.messages n ≡ None)) → (n : ℕ) → place ≡ Some n →
            (n < 1024) × (named s.cells (message_name n) ≡ None)
        by_place None free n e = absurd (none-some n e)
        by_place (Some k) free n e = subst (λ i. (i < 1024) × (named s.cells (message_name i) ≡ None)) (same_Some k n e) (free.0, nothing_named k free.1)

        called : (place : Option ℕ) (n : ℕ) → place ≡ Some n → sent_name place ≡ message_name n
        called None n e = absurd (none-some n e)
        called (Some k) n e = ap message_name (same_Some k n e)
    executes Close acts observes = by_parts Close None tt acts.0 (kept.after_close c m.clients) acts.1 (same_close p st.typing st.sound.wired w
        (typed_now p m s st idle c) st.kept.fit m.clients same p.header.cells st.agrees.services.sized (servers_below p m s st idle c) c one (sent_name None))
        (sized_close p.header.cells m.clients st.agrees.services.sized c) (sessions_close m.clients c few) (messages_close p c w m.clients same m.messages store
        st.agrees.services.messages withdraws acts.2 (sent_name None)) (queue_changed None (kept.client_at m.clients c)) away_named observes
    executes Die acts observes = by_parts Die None tt acts.0 (kept.after_die c m.clients) acts.1 (same_die p st.typing st.sound.wired w
        (typed_now p m s st idle c) st.kept.fit m.clients same p.header.cells st.agrees.services.sized (servers_below p m s st idle c) c one (sent_name None))
        (sized_die p.header.cells m.clients st.agrees.services.sized c) (sessions_die m.clients c few) (messages_die p c w m.clients same m.messages store
        st.agrees.services.messages withdraws acts.2 (sent_name None)) (queue_changed None (kept.client_at m.clients c)) away_named observes
