-- The machine stands for what the checked machine comes to by a command of a client.
use Rattle.std.proofs.lemmas.Bool.Decides.{nat_tests}
use Rattle.std.proofs.Common.{ap, arith, false, None, Option, refl, Some, subst, suc, sym, true, ℕ, ◌<◌, ◌≤◌, ◌∙◌, ◌≡◌, []}
use Rattle.std.proofs.lemmas.Bool.{eq-eqb, false≢true}
use Rattle.std.proofs.lemmas.Option.{none-some, same_Some}
use Rattle.aom_active_objects.specs.Agrees.{Active}
use Rattle.aom_clients.specs.Clients as kept
use Rattle.aom_image.specs.Image.{Image}
use Rattle.aom_image.specs.declared.method.Thing.TheVariants.{Message}
use Rattle.aom_cells.specs.Store.{Store}
use Rattle.aom_machine.proofs.SafetyLemmas.{NoneComes, commanded_well, fit_commanded, message_plain, waiting_well}
use Rattle.aom_semantics.specs.Clients.{commanded}
use Rattle.aom_safety.specs.Kept.{ClientsFit}
use Rattle.aom_semantics.specs.Places.{Elsewhere, Message_of, Object, Place, Queued, held, named, service_of}
use Rattle.aom_semantics.specs.Servers.{asked_last, is_queue, is_server, withdrawn}
use Rattle.aom_semantics.specs.State.{Counters, State}
use Rattle.aom_semantics.specs.Tokens.{awaited, order_in}
use Rattle.aom_safety.specs.WellTyped.{WellTyped}
use Rattle.aom_semantics.specs.World.{observed_one}
use Rattle.aom_machine.proofs.TerminationLemmas.{served_same, withdrawn_same}
use Rattle.aom_termination.specs.Left.{is_entry, objects_left}
use Rattle.aom_static_bounds.specs.Prices.{Prices}
use Rattle.aom_transcript.specs.declared.event.ClientCommand.{ClientCommand}
use Rattle.aom_machine.proofs.MachineStateLemmas.{Beside, SessionsSame, Reported_alike, beside_withdrawn, cells_beside, holds_withdrawn, listed_beside}
use Rattle.aom_machine.proofs.MachineStateLemmas.{natives_beside, queue_empty, requests_beside, shows_again, tokens_beside, reported_withdrawn}
use Rattle.aom_machine_state.specs.Agrees.{Agrees, SameRequests, Represents, word_at}
use Rattle.aom_machine_state.specs.Messages.{SameMessages}
use Rattle.aom_machine_state.specs.Places.{others, value}
use Rattle.aom_machine_state.specs.Serving.{AreSized, SameClients}
use Rattle.aom_machine_state.specs.Stands.{Refines}
use Rattle.aom_machine_state.specs.declared.parts.Parts.{Parts}
use Rattle.aom_machine.proofs.ByCommand.{by_command}
use Rattle.aom_machine.proofs.Commanded.{Untouched, commanded_beside, commanded_form, commanded_holds, commanded_queue, commanded_reported}
use Rattle.aom_machine.proofs.Idle.{stands_idle}
use Rattle.aom_machine.proofs.Noting.{noted_requests, waits_alike}
use Rattle.aom_machine.specs.Servers.{NotesIf, is_queued}

-- ---- what is outstanding on the cleanup stack

module _ (q : Prices) (p : Image) (c : ℕ) (s : State) where
  unqueued : (r : Place) → is_queue r ≡ true → is_entry r ≡ false
  unqueued r e = grind arith

  -- a command changes nothing of it
  pub commanded_left : (command : ClientCommand) (name : ℕ) → objects_left q (commanded p c s command name).cells ≡ objects_left q s.cells
  commanded_left command name = by_command p c s (λ t. objects_left q t.cells ≡ objects_left q s.cells) name (record {
    same = refl;
    connects = λ x slots. served_same q is_entry x.name _ s.cells;
    sends = λ words server. let same = served_same q is_entry server (asked_last (Message_of c name) (service_of s.cells server)) s.cells in omega (arith, same);
    leaves = λ to. withdrawn_same q is_entry unqueued c s.cells;
    closes = λ to server. served_same q is_entry server _ (withdrawn c s.cells) ∙ withdrawn_same q is_entry unqueued c s.cells;
  }) command

-- ---- all of it

module _ (p : Image) (m : Parts) (s : State) (st : Refines (record { image = p; parts = m }) s) (idle : s.tasks ≡ []) (c : ℕ) where
  -- one event more is delivered
  abbrev pub v : State
  v = observed_one s

  pub typed_now : WellTyped p st.typing v
  typed_now = record { layers = st.typed.layers; tasks = st.typed.tasks; items = st.typed.items; undo_operations = st.typed.undo_operations; good = st.typed.good }

  waiting : (n k : ℕ) (o : Object) → held v.cells (Elsewhere (Queued n k)) ≡ Some o → is_server p o.thing ≡ false
  waiting n k o e = waiting_well p st.typing st.sound.wired v typed_now n k o e

  -- servers that live are among the cells that there may be
  pub servers_below : (o : Object) → named s.cells o.name ≡ Some o → is_server p o.thing ≡ true → o.name < p.header.cells
  servers_below o lives serves = grind (arith, nat_tests, message_plain p Message)

  module _ (command : ClientCommand) (name : ℕ) (free : named s.cells name ≡ None) (high : 4096 ≤ name)
      (k : kept.ClientsState) (store : Store) (a : Active) (clients : SameClients k (commanded p c v command name).cells (commanded p c v command name).clients)
      (sized : AreSized p.header.cells k) (sessions : SessionsSame m.clients k) (messages : SameMessages p store (commanded p c v command name).cells)
      (server : Option ℕ) (touched : (n : ℕ) → (server ≡ Some n → ⊥) → Untouched p c v command n) (observes : NotesIf server k m.active a) where
    abbrev then : State
    then = commanded p c v command name

    abbrev there : State
    there = record v { cells = then.cells; clients = then.clients }

    form : then ≡ there
    form = commanded_form p c v command name

    beside : Beside s.cells then.cells
    beside = commanded_beside p c v (beside_withdrawn
        p st.typing st.sound.wired v typed_now st.kept.fit m.clients st.agrees.services.clients m.messages st.agrees.services.messages c) command name free high

    reports : Reported_alike s.cells then.cells
    reports = commanded_reported p c v (reported_withdrawn p st.typing st.sound.wired v typed_now st.kept.fit m.clients st.agrees.services.clients c) command name free

    no_token : NoneComes s.cells then.cells
    no_token = record { waits = λ n k e. sym (ap awaited (beside.requests n)) ∙ e; reported = λ n k e. sym (ap order_in (reports n)) ∙ e }

    typed : WellTyped p st.typing there
    typed = subst (WellTyped p st.typing) form (commanded_well p st.typing st.sound.wired v typed_now idle st.kept.fit c command name free)

    fit : ClientsFit p then.clients then.cells
    fit = fit_commanded p c v typed_now.good.no_duplicates st.kept.fit waiting command name free

    queues : (n : ℕ) → (server ≡ Some n → ⊥) → (service_of then.cells n).queue ≡ (service_of s.cells n).queue
    queues n away = commanded_queue p c v typed_now.good.no_duplicates st.kept.fit
        (λ i x e h. (queue_empty p st.typing st.sound.wired v typed_now v.clients st.kept.fit i x e h).0) command name free n (touched n away)

    abbrev new : Parts
    new = record m { clients = k; messages = store; active = a; rest = record m.rest { delivered = suc m.rest.delivered } }

    agrees_now : Agrees p new there
    agrees_now = record {
      tasks = st.agrees.tasks;
      values = values;
      cells = cells_beside p m.cells s.cells then.cells beside st.agrees.cells;
      entries = st.agrees.entries;
      requests = requests;
      natives = natives_beside p m.sessions s.killed s.cells then.cells st.sound.formed.header.cells beside st.agrees.natives;
      services = record {
        clients = clients;
        sized = sized;
        messages = messages;
        tokens = tokens_beside p m.tokens s.cells then.cells beside reports st.agrees.services.tokens;
        listed = listed_beside p m.listed s.cells then.cells beside st.agrees.services.listed;
      };
      rest = ap (λ (r : Counters). record r { delivered = suc r.delivered }) st.agrees.rest;
      room = st.agrees.room;
      entry_room = st.agrees.entry_room;
    }
      where
        apart : (r : Place) → ((i j : ℕ) → r ≡ Elsewhere (Queued i j) → ⊥) → is_queue r ≡ false
        apart x out = grind arith

        values : (r : Place) → Represents (value new r) (word_at s.tasks r) (held then.cells r)
        values r = shows_again p st.typing there (others m) k m.stack.tasks m.cells m.entries.items s.cells s.tasks typed fit clients sessions (λ q out.
            commanded_holds p c v (λ i e. holds_withdrawn p st.typing st.sound.wired v typed_now st.kept.fit m.clients st.agrees.services.clients c i e) q
            (apart q out) command name) st.agrees.values r

        requests : SameRequests p a then.cells
        requests = by server touched_queues observes
          where
            touched_queues : (n : ℕ) → (server ≡ Some n → ⊥) → (service_of then.cells n).queue ≡ (service_of s.cells n).queue
            touched_queues = queues

            by : (x : Option ℕ) → ((n : ℕ) → (x ≡ Some n → ⊥) → (service_of then.cells n).queue ≡ (service_of s.cells n).queue) → NotesIf x k m.active a →
                SameRequests p a then.cells
            by None same still = subst (λ b. SameRequests p b then.cells) (sym still)
                (requests_beside p m.active s.cells then.cells beside (λ n asked. same n (λ e. none-some n e)) st.agrees.requests)
            by (Some j) same notes = noted_requests p m.active a s.cells then.cells beside st.agrees.requests j (λ n other. same n
                (λ e. false≢true (sym other ∙ eq-eqb j n (same_Some j n e)))) (is_queued k j) (waits_alike k then.cells then.clients clients j) notes

    -- and so it stands for the state
    pub executed_stands : Refines (record { image = p; parts = new }) then
    executed_stands = subst (Refines (record { image = p; parts = new })) (sym form) (stands_idle p m s st idle new then.cells then.clients v.rest s.killed
        typed fit no_token (commanded_left st.sound.prices p c v command name) refl agrees_now)
