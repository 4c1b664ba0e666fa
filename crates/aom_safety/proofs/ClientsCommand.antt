-- What a client's command comes to is kept: it connects, sends, closes or dies, or nothing comes of it.
use Rattle.std.proofs.lemmas.Bool.Decides.{nat_tests}
use Rattle.std.proofs.Common.{[], Bool, List, None, Option, Some, ap, cond, false, refl, subst, sym, true, ℕ, ℤ, ◌&&◌, ◌==◌, ◌∙◌, ◌∷◌, ◌≡◌, arith}
use Rattle.std.proofs.lemmas.Bool.{eq-eqb, ne_eqb, or_parts}
use Rattle.std.specs.List.{list_any}
use Rattle.std.specs.Prelude.{nat_lt, ◌||◌, is_some}
use Rattle.aom_image.specs.Image.{Image}
use Rattle.aom_clients.specs.Nodes.{is_leaving, is_open_at}
use Rattle.aom_clients.specs.Table.{row, server_of}
use Rattle.aom_clients.specs.declared.client.Client.{Client}
use Rattle.aom_clients.specs.declared.client.Client.TheVariants.{Closing, Connecting, Dead, Dying, Gone, Open, Unconnected}
use Rattle.aom_clients.specs.declared.refusal.CommandRefusal.{CommandRefusal}
use Rattle.aom_roles.specs.Shapes.{kind_of}
use Rattle.aom_safety.proofs.ClientsAsk.{asked_none, connects_free, fit_connecting, fit_sent, listed_room, listed_serves, asked_there}
use Rattle.aom_safety.proofs.ClientsSteady.{fit_steady, steady_more}
use Rattle.aom_safety.proofs.ClientsLeave.{empty, fit_reported, fit_withdrawn, queue_leaving, queue_left, service_left}
use Rattle.aom_safety.proofs.SemanticsLemmas.{named_name}
use Rattle.aom_safety.proofs.Queues.{client_here, none_passes, none_stays}
use Rattle.aom_safety.proofs.Services.{service_unnamed}
use Rattle.aom_safety.proofs.FilteredCells.{a_cell_of, cell_of, named_cell, named_filtered_cells, service_cell, service_in, withdrawn_so}
use Rattle.aom_semantics.specs.Clients.{sent_message, asked_server, Listed, asked_of, client_at, commanded, connecting}
use Rattle.aom_semantics.specs.Clients.{leaving, most_of, refusal, sending, with_client, with_message}
use Rattle.aom_safety.specs.Kept.{ClientsFit, is_close_of, is_message_of}
use Rattle.aom_semantics.specs.Places.{Asked, Cell, Close_of, Connect_of, Elsewhere, Message_of, Object}
use Rattle.aom_semantics.specs.Places.{Queued, NoDuplicates, held, named, service_of, set_service, requested}
use Rattle.aom_semantics.specs.Servers.{asked_last, has_session, is_from, is_message, is_server, reserved, sessions_in_use, stays, withdrawn}
use Rattle.aom_semantics.specs.State.{State}
use Rattle.aom_transcript.specs.declared.event.ClientCommand.{ClientCommand}
use Rattle.aom_transcript.specs.declared.event.ClientCommand.TheVariants.{Close, Connect, Die, Send}

-- ---- what stands where clients are

-- no client has a message of that name there, so that none waits
pub none_named : (m : ℕ) (es : List Asked) → ((d : ℕ) → list_any (is_message_of d m) es ≡ false) → list_any (λ e. is_message m e) es ≡ false
none_named m [] none = refl
none_named m (Connect_of c ∷ es) none = none_named m es none
none_named m (Close_of c ∷ es) none = none_named m es none
none_named m (Message_of c k ∷ es) none =
    let own = (or_parts ((c == c) && (k == m)) (list_any (is_message_of c m) es) (none c)).0 in
    ap (λ b. b || list_any (λ e. is_message m e) es) (sym (ap (λ b. b && (k == m)) (eq-eqb c c refl)) ∙ own)
    ∙ none_named m es (λ d. (or_parts ((c == d) && (k == m)) (list_any (is_message_of d m) es) (none d)).1)

module _ (p : Image) (c : ℕ) (s : State) (no_duplicates : NoDuplicates s.cells) (fit : ClientsFit p s.clients s.cells) where
  abbrev own : Client
  own = client_at s.clients c

  -- a server with which a client has a session stands, and is one
  pub server_there : (n : ℕ) → has_session (service_of s.cells n) c ≡ true →
      (o : Object) × (o.name ≡ n) × (named s.cells o.name ≡ Some o) × (is_server p o.thing ≡ true)
  server_there n h = grind (arith, nat_tests, service_unnamed s.cells n, named_name s.cells n)

  -- and is enlisted
  pub server_listed : (o : Object) → named s.cells o.name ≡ Some o → has_session (service_of s.cells o.name) c ≡ true → is_some (requested s.cells o.name) ≡ true
  server_listed o lives h = grind (arith, nat_tests)

  -- of a name that is free nothing waits
  pub nobody : (n name : ℕ) → named s.cells name ≡ None → (d : ℕ) → list_any (is_message_of d name) (service_of s.cells n).queue ≡ false
  nobody n name free d = go (list_any (is_message_of d name) (service_of s.cells n).queue) refl
    where
      go : (b : Bool) → list_any (is_message_of d name) (service_of s.cells n).queue ≡ b → b ≡ false
      go false e = refl
      go true e = let none : false ≡ true = sym (ap (λ v. is_from d v.sender) (service_unnamed s.cells name free)) ∙ fit.senders n d name e in cc

  -- ---- it connects

  fit_connects : (class slots : ℕ) (refused : Option CommandRefusal) →
      asked_of (row own).connect (most_of (kind_of p (Some class))) (asked_server p class s.cells) s.cells ≡ refused →
      ClientsFit p (connecting p c s refused (asked_server p class s.cells) slots).clients (connecting p c s refused (asked_server p class s.cells) slots).cells
  fit_connects class slots refused e = go refused (asked_server p class s.cells) refl e
    where
      go : (r : Option CommandRefusal) (x : Option Listed) → asked_server p class s.cells ≡ x → asked_of (row own).connect
          (most_of (kind_of p (Some class))) x s.cells ≡ r → ClientsFit p (connecting p c s r x slots).clients (connecting p c s r x slots).cells
      go None (Some x) there e =
          let asked = asked_none (row own).connect (most_of (kind_of p (Some class))) x s.cells e in
          let l = asked_there p class s.cells x no_duplicates there in
          subst (λ n. ClientsFit p (with_client c (Connecting n slots) s.clients) (reserved (asked_last (Connect_of c)) n s.cells)) l.1
          (fit_connecting p s.clients s.cells fit l.0 l.2 (listed_serves p class _ l.0.thing l.3 asked.1) l.4 c slots
          (connects_free own asked.0) (listed_room p class (service_of s.cells l.0.name) l.0.thing l.3
          (ap (λ n. nat_lt (sessions_in_use (service_of s.cells n)) (most_of (kind_of p (Some class)))) l.1 ∙ asked.1)))
      go None None there e = fit
      go (Some r) x there e = fit

  -- ---- it sends

  fit_sends : (refused : Option CommandRefusal) (name : ℕ) (words : List ℤ) → named s.cells name ≡ None → (k : Client) → own ≡ k →
      ClientsFit p (sending p c s refused k name words).clients (sending p c s refused k name words).cells
  fit_sends None name words free (Open server session slots) at = subst (λ l. ClientsFit p s.clients l) same
      (subst (λ n. ClientsFit p s.clients (reserved (asked_last (Message_of c name)) n (message ∷ s.cells))) there.1 sent)
    where
      message : Cell
      message = sent_message c name words server

      there : (o : Object) × (o.name ≡ server) × (named s.cells o.name ≡ Some o) × (is_server p o.thing ≡ true)
      there = server_there server (fit.listed server c (ap server_of at))

      listed : is_some (requested s.cells there.0.name) ≡ true
      listed = server_listed there.0 there.2 (ap (λ n. has_session (service_of s.cells n) c) there.1 ∙ fit.listed server c (ap server_of at))

      other : (name == there.0.name) ≡ false
      other = ne_eqb name there.0.name (λ same. let clash : Some there.0 ≡ None = sym there.2 ∙ ap (λ n. named s.cells n) (sym same) ∙ free in cc)

      other_server : (name == server) ≡ false
      other_server = ap (λ n. name == n) (sym there.1) ∙ other

      same : reserved (asked_last (Message_of c name)) server (message ∷ s.cells) ≡ with_message p c s name words server
      same = ap (λ b. record message { service = cond b (asked_last (Message_of c name) (cond b message.service (service_of s.cells server))) message.service }
          ∷ set_service server (asked_last (Message_of c name) (cond b message.service (service_of s.cells server))) s.cells) other_server

      with_it : ClientsFit p s.clients (message ∷ s.cells)
      with_it = fit_steady p s.clients s.cells (message ∷ s.cells) (steady_more message s.cells free refl refl (λ n m e. cc) refl refl) fit

      sent : ClientsFit p s.clients (reserved (asked_last (Message_of c name)) there.0.name (message ∷ s.cells))
      sent = fit_sent p s.clients (message ∷ s.cells) with_it there.0 (ap (λ b. cond b (Some message.object) (named s.cells there.0.name)) other ∙ there.2)
          there.3 (ap (λ b. is_some (cond b None (requested s.cells there.0.name))) other ∙ listed) c name (ap (λ k. is_open_at there.0.name k) at ∙ eq-eqb
          server there.0.name (sym there.1)) (ap (λ b. list_any (λ e. is_message name e) (cond b message.service (service_of s.cells there.0.name)).queue) other
          ∙ none_named name (service_of s.cells there.0.name).queue (nobody there.0.name name free))
          (ap (λ b. is_from c (cond b message.service (service_of s.cells name)).sender) (eq-eqb name name refl) ∙ eq-eqb c c refl)
  fit_sends _ name words free k at = fit

  -- ---- it closes or dies

  module _ (waiting : (n m : ℕ) (o : Object) → held s.cells (Elsewhere (Queued n m)) ≡ Some o → is_server p o.thing ≡ false) where
    no_close : ((n : ℕ) → is_leaving n own ≡ false) → (n : ℕ) → list_any (is_close_of c) (service_of s.cells n).queue ≡ false
    no_close stays n = grind (arith, nat_tests, none_passes)

    -- with no session open
    goes_alone : (to : Client) → server_of to ≡ server_of own → ((n : ℕ) → is_leaving n own ≡ false) →
        ClientsFit p (with_client c to s.clients) (withdrawn c s.cells)
    goes_alone to session stays = fit_withdrawn p s.clients s.cells no_duplicates fit c waiting to session
        (λ n. queue_left s.clients c n to (service_of s.cells n).queue (no_close stays n) (fit.queues n))

    -- with its close asked for already
    goes_still : (to : Client) → server_of to ≡ server_of own → ((n : ℕ) → is_leaving n own ≡ true → is_leaving n to ≡ true) →
        ClientsFit p (with_client c to s.clients) (withdrawn c s.cells)
    goes_still to session still = fit_withdrawn p s.clients s.cells no_duplicates fit c waiting to session
        (λ n. queue_leaving s.clients c n to (still n) (service_of s.cells n).queue (fit.queues n))

    -- a server with a session is no message that goes
    pub server_stays : (o : Object) → named s.cells o.name ≡ Some o → has_session (service_of s.cells o.name) c ≡ true → named (withdrawn c s.cells) o.name ≡ Some o
    server_stays o lives has = grind (
      arith,
      nat_tests,
      a_cell_of (cell_of s.cells o.name) o,
      cell_of s.cells o.name,
      named_cell s.cells o.name,
      empty p s.clients s.cells no_duplicates fit c waiting o.name,
      service_cell s.cells o.name,
      service_in,
      withdrawn_so c s.cells,
      named_filtered_cells,
    )

    -- with its session open: a close is asked last
    goes_reported : (server session slots : ℕ) → own ≡ Open server session slots → (to : Client) → server_of to ≡ Some server → is_leaving server to ≡ true →
        ClientsFit p (with_client c to s.clients) (reserved (asked_last (Close_of c)) server (withdrawn c s.cells))
    goes_reported server session slots at to same leaves = grind (
      arith,
      nat_tests,
      fit_reported p,
      client_here c to s.clients,
      service_left p s.clients s.cells no_duplicates fit c waiting,
      none_stays,
      no_close,
      server_there server,
      goes_alone to,
      server_stays,
      withdrawn_so c s.cells,
    )

    fit_closes : (k : Client) → own ≡ k → ClientsFit p (leaving p c s (row k).close).clients (leaving p c s (row k).close).cells
    fit_closes (Connecting server slots) at = grind (arith, nat_tests, goes_alone Unconnected)
    fit_closes (Open server session slots) at = grind (arith, nat_tests, goes_reported server session slots at (Closing server session), eq-eqb server server)
    fit_closes Gone at = grind (arith, nat_tests, goes_alone Unconnected)
    fit_closes _ at = fit

    fit_dies : (k : Client) → own ≡ k → ClientsFit p (leaving p c s (row k).die).clients (leaving p c s (row k).die).cells
    fit_dies (Open server session slots) at = grind (arith, nat_tests, goes_reported server session slots at (Dying server session), eq-eqb server server)
    fit_dies (Closing server session) at = grind (arith, nat_tests, goes_still (Dying server session))
    fit_dies Dead at = fit
    fit_dies (Dying server session) at = fit
    fit_dies _ at = grind (arith, nat_tests, goes_alone Dead)

    -- whatever is commanded
    pub fit_commanded : (command : ClientCommand) (name : ℕ) → named s.cells name ≡ None →
        ClientsFit p (commanded p c s command name).clients (commanded p c s command name).cells
    fit_commanded (Connect class slots) name free = fit_connects class slots (refusal p c s (Connect class slots)) refl
    fit_commanded (Send words) name free = fit_sends (refusal p c s (Send words)) name words free own refl
    fit_commanded Close name free = fit_closes own refl
    fit_commanded Die name free = fit_dies own refl
