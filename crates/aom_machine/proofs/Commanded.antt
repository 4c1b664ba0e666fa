-- What a command of a client leaves as it was: the sessions of clients, the cells but for messages, and the queues of all servers but one.
use Rattle.std.proofs.lemmas.Bool.Decides.{nat_tests}
use Rattle.std.proofs.Common.{ap, Bool, cond, false, length, List, None, Option, refl, Some, sym, true, ℕ, ◌<◌, ◌≤◌, ◌==◌, ◌∙◌, ◌∷◌, ◌≡◌, [], arith}
use Rattle.std.specs.Prelude.{filter, ◌&&◌}
use Rattle.std.proofs.lemmas.Bool.{eqb-true, ne_eqb}
use Rattle.aom_clients.specs.Clients as kept
use Rattle.aom_clients.specs.Nodes.{is_connecting_at, is_open_at, named_by}
use Rattle.aom_clients.specs.Table.{row}
use Rattle.aom_clients.specs.declared.client.Client.{Client}
use Rattle.aom_clients.specs.declared.client.Client.TheVariants.{Unconnected}
use Rattle.aom_clients.specs.declared.refusal.CommandRefusal.{CommandRefusal}
use Rattle.aom_clients.specs.declared.server.Server.{Server}
use Rattle.aom_image.specs.Image.{Image}
use Rattle.aom_machine.proofs.SafetyLemmas.{cell_of, cell_of_filtered_cells, held_served, kept as kept_cell, named_served, service_cell, service_in, service_there}
use Rattle.aom_machine.proofs.SafetyLemmas.{service_unnamed, filtered_cells, withdrawn_so}
use Rattle.aom_safety.specs.Kept.{ClientsFit, QueueFits}
use Rattle.aom_semantics.specs.Clients.{Listed, asked_server, client_at, commanded, leaving, refusal, sent_message}
use Rattle.aom_semantics.specs.Places.{Asked, Cell, Close_of, Connect_of, Elsewhere, Message_of, Place, Queued, Service, NoDuplicates, held, named, same_place, service_of}
use Rattle.aom_semantics.specs.Servers.{asked_last, is_from, is_queue, left_by, reserved, stays, withdrawn}
use Rattle.aom_semantics.specs.State.{State}
use Rattle.aom_transcript.specs.declared.event.ClientCommand.{ClientCommand}
use Rattle.aom_transcript.specs.declared.event.ClientCommand.TheVariants.{Close, Connect, Die, Send}
use Rattle.aom_machine.proofs.ByCommand.{by_command, by_connecting, by_leaving, by_sending, by_reported}
use Rattle.aom_machine.proofs.MachineStateLemmas.{Beside, SessionsSame, Reported_alike, at_set, beside_itself, beside_message, beside_served, beside_then}
use Rattle.aom_machine.proofs.MachineStateLemmas.{reported_served}
use Rattle.aom_machine_state.specs.Places.{session_with}

-- a place in a queue is none that is not
apart_queue : (n k : ℕ) (r : Place) → is_queue r ≡ false → same_place (Elsewhere (Queued n k)) r ≡ false
apart_queue n k r e = grind arith

-- a new cell that is no token
reported_fresh : (x : Cell) (cs : List Cell) → named cs x.object.name ≡ None → x.service.token ≡ None → Reported_alike cs (x ∷ cs)
reported_fresh x cs free none n = grind (arith, nat_tests, eqb-true x.object.name n, service_unnamed cs x.object.name free)

-- ---- the sessions of clients

-- a client that is at something else has the same session, or has none as before
module _ (s : kept.ClientsState) (c : ℕ) (small : c < length s.clients) where
  client_then : (to : Client) (d : ℕ) → kept.client_at (kept.with_client c to s) d ≡ cond (c == d) to (kept.client_at s d)
  client_then to d = at_set Unconnected s.clients c d to small

  sessions_with : (to : Client) → ((n : ℕ) → session_with n to ≡ session_with n (kept.client_at s c)) → SessionsSame s (kept.with_client c to s)
  sessions_with to same n d = grind (arith, nat_tests, client_then to d, eqb-true c d)

-- a connect
connected_none : (x : Client) (refused : Option CommandRefusal) (server : Option Server) (s : kept.ClientsState) →
    kept.asked (row x).connect server s ≡ None → (n : ℕ) → session_with n x ≡ session_with n Unconnected
connected_none x refused server s e n = grind arith

pub sessions_connect : (s : kept.ClientsState) (c : ℕ) (server : Option Server) (slots : ℕ) → c < length s.clients → SessionsSame s (kept.after_connect c server slots s)
sessions_connect s c server slots small = grind (arith, nat_tests, SessionsSame s, sessions_with s c small, connected_none)

-- a send
pub sessions_send : (s : kept.ClientsState) (c : ℕ) (place : Option ℕ) → SessionsSame s (kept.after_send c place s)
sessions_send s c place = grind (arith, nat_tests, SessionsSame s)

-- a close, and a death
closes_alike : (x to : Client) → (row x).close ≡ Some to → (n : ℕ) → session_with n to ≡ session_with n x
closes_alike x to e n = grind arith

dies_alike : (x to : Client) → (row x).die ≡ Some to → (n : ℕ) → session_with n to ≡ session_with n x
dies_alike x to e n = grind arith

module _ (s : kept.ClientsState) (c : ℕ) (small : c < length s.clients) where
  sessions_left : (to : Client) → ((n : ℕ) → session_with n to ≡ session_with n (kept.client_at s c)) → (x : Client) →
      SessionsSame s (kept.reported x c (kept.with_client c to (kept.withdrawn c s)))
  sessions_left to same x = grind (arith, nat_tests, sessions_with s c small to same)

  sessions_leaving : (to : Option Client) → ((x : Client) → to ≡ Some x → (n : ℕ) → session_with n x ≡ session_with n (kept.client_at s c)) →
      SessionsSame s (kept.leaving to c s)
  sessions_leaving None same = λ n d. refl
  sessions_leaving (Some to) same = sessions_left to (same to refl) (kept.client_at s c)

  pub sessions_close : SessionsSame s (kept.after_close c s)
  sessions_close = sessions_leaving (row (kept.client_at s c)).close (closes_alike (kept.client_at s c))

  pub sessions_die : SessionsSame s (kept.after_die c s)
  sessions_die = sessions_leaving (row (kept.client_at s c)).die (dies_alike (kept.client_at s c))

-- ---- the state

module _ (p : Image) (c : ℕ) (s : State) where
  -- cells and what clients are at, and nothing else
  pub commanded_form : (command : ClientCommand) (name : ℕ) →
      commanded p c s command name ≡ record s { cells = (commanded p c s command name).cells; clients = (commanded p c s command name).clients }
  commanded_form command name = by_command p c s (λ t. t ≡ record s { cells = t.cells; clients = t.clients }) name
      (record { same = refl; connects = λ x slots. refl; sends = λ words server. refl; leaves = λ to. refl; closes = λ to server. refl }) command

  -- the queue of that server is none that the command changes
  abbrev pub Untouched : ClientCommand → ℕ → Type 0
  Untouched (Connect class slots) n = (x : Listed) → asked_server p class s.cells ≡ Some x → x.name ≡ n → ⊥
  Untouched _ n = named_by (client_at s.clients c) ≡ Some n → ⊥

  -- ---- the cells

  -- messages alone come and go
  module _ (withdraws : Beside s.cells (withdrawn c s.cells)) where
    pub commanded_beside : (command : ClientCommand) (name : ℕ) → named s.cells name ≡ None → 4096 ≤ name → Beside s.cells (commanded p c s command name).cells
    commanded_beside command name free high = by_command p c s (λ t. Beside s.cells t.cells) name (record {
      same = beside_itself s.cells;
      connects = λ x slots. beside_served s.cells x.name _;
      sends = λ words server.
          let v = asked_last (Message_of c name) (service_of s.cells server) in
          beside_then s.cells (reserved (asked_last (Message_of c name)) server s.cells) _ (beside_served s.cells server v)
          (beside_message (reserved (asked_last (Message_of c name)) server s.cells) _ (named_served s.cells server v name ∙ free) refl high refl refl);
      leaves = λ to. withdraws;
      closes = λ to server. beside_then s.cells (withdrawn c s.cells) _ withdraws (beside_served (withdrawn c s.cells) server _);
    }) command

  -- and none of these is a token
  module _ (withdraws : Reported_alike s.cells (withdrawn c s.cells)) where
    pub commanded_reported : (command : ClientCommand) (name : ℕ) → named s.cells name ≡ None → Reported_alike s.cells (commanded p c s command name).cells
    commanded_reported command name free = by_command p c s (λ t. Reported_alike s.cells t.cells) name (record {
      same = λ n. refl;
      connects = λ x slots. reported_served s.cells x.name _ refl;
      sends = λ words server n.
          let us = reserved (asked_last (Message_of c name)) server s.cells in
          reported_fresh (sent_message c name words server) us (named_served s.cells server _ name ∙ free) refl n ∙ reported_served s.cells server _ refl n;
      leaves = λ to. withdraws;
      closes = λ to server n. reported_served (withdrawn c s.cells) server _ refl n ∙ withdraws n;
    }) command

  -- what is in no queue stays where it is
  module _ (stay : (r : Place) → is_queue r ≡ false → held (withdrawn c s.cells) r ≡ held s.cells r) (r : Place) (apart : is_queue r ≡ false) where
    pub commanded_holds : (command : ClientCommand) (name : ℕ) → held (commanded p c s command name).cells r ≡ held s.cells r
    commanded_holds command name = by_command p c s (λ t. held t.cells r ≡ held s.cells r) name (record {
      same = refl;
      connects = λ x slots. held_served s.cells x.name _ r;
      sends = grind (arith, nat_tests, apart_queue, held_served s.cells);
      leaves = λ to. stay r apart;
      closes = λ to server. held_served (withdrawn c s.cells) server _ r ∙ stay r apart;
    }) command

-- ---- the queues of all servers but one

-- a client that asks a server, or has a session with it, is at that one
connecting_named : (n : ℕ) (x : Client) → is_connecting_at n x ≡ true → named_by x ≡ Some n
connecting_named n x e = grind (arith, eqb-true)

open_named : (n : ℕ) (x : Client) → is_open_at n x ≡ true → named_by x ≡ Some n
open_named n x e = grind (arith, eqb-true)

-- it is at something else
module _ (clients : List Client) (c n : ℕ) (away : named_by (client_at clients c) ≡ Some n → ⊥) where
  -- and so nothing of it waits
  all_stay : (es : List Asked) → QueueFits clients n es → filter (stays c) es ≡ es
  all_stay [] fits = refl
  all_stay (Close_of d ∷ es) fits = ap (λ l. Close_of d ∷ l) (all_stay es fits.1)
  all_stay (Connect_of d ∷ es) fits = grind (arith, nat_tests, all_stay es fits.1, connecting_named n, eqb-true d c)
  all_stay (Message_of d m ∷ es) fits = grind (arith, nat_tests, all_stay es fits.1, open_named n, eqb-true d c)

-- what a client leaves of a queue
module _ (c : ℕ) (s : State) (no_duplicates : NoDuplicates s.cells) (bare : (n : ℕ) (x : Cell) → cell_of s.cells n ≡ Some x → is_queue x.owner ≡ true → x.service.queue ≡ []) where
  queue_withdrawn : (n : ℕ) → (service_of (withdrawn c s.cells) n).queue ≡ filter (stays c) (service_of s.cells n).queue
  queue_withdrawn n = ap (λ l. (service_of l n).queue) (withdrawn_so c s.cells)
      ∙ ap (λ (v : Service). v.queue) (service_cell (filtered_cells (λ x. is_queue x.owner && is_from c x.service.sender) (λ x. left_by c x.service) s.cells) n)
      ∙ ap (λ x. (service_in x).queue) (cell_of_filtered_cells (λ x. is_queue x.owner && is_from c x.service.sender) (λ x. left_by c x.service) s.cells n no_duplicates)
      ∙ go (cell_of s.cells n) refl ∙ sym (ap (λ (v : Service). filter (stays c) v.queue) (service_cell s.cells n))
    where
      go : (x : Option Cell) → cell_of s.cells n ≡ x → (service_in
          (kept_cell (λ x. is_queue x.owner && is_from c x.service.sender) (λ x. left_by c x.service) x)).queue ≡ filter (stays c) (service_in x).queue
      go None e = refl
      go (Some x) e = by (is_queue x.owner) refl (is_from c x.service.sender)
        where
          by : (a : Bool) → is_queue x.owner ≡ a → Bool → (service_in (cond (is_queue x.owner && is_from c x.service.sender) None
              (Some (record x { service = left_by c x.service })))).queue ≡ filter (stays c) x.service.queue
          by true h d = nothing (is_queue x.owner && is_from c x.service.sender) (bare n x e h)
            where
              nothing : (b : Bool) → x.service.queue ≡ [] →
                  (service_in (cond b None (Some (record x { service = left_by c x.service })))).queue ≡ filter (stays c) x.service.queue
              nothing true none = sym (ap (filter (stays c)) none)
              nothing false none = refl
          by false h d = ap (λ b. (service_in (cond (b && is_from c x.service.sender) None (Some (record x { service = left_by c x.service })))).queue) h

module _ (p : Image) (c : ℕ) (s : State) (no_duplicates : NoDuplicates s.cells)
    (fit : ClientsFit p s.clients s.cells) (bare : (n : ℕ) (x : Cell) → cell_of s.cells n ≡ Some x → is_queue x.owner ≡ true → x.service.queue ≡ []) where
  abbrev SameQueue : List Cell → ℕ → Type 0
  SameQueue ds n = (service_of ds n).queue ≡ (service_of s.cells n).queue

  other : (k n : ℕ) → (k ≡ n → ⊥) → (k == n) ≡ false
  other k n never = ne_eqb k n (λ e. absurd (never e))

  leaving_queue : (to : Option Client) (n : ℕ) → (named_by (client_at s.clients c) ≡ Some n → ⊥) → SameQueue (leaving p c s to).cells n
  leaving_queue to n away =
      grind (arith, nat_tests, by_leaving p c s, by_reported p c s, service_there, other, queue_withdrawn c s no_duplicates bare n, all_stay s.clients c n away)

  pub commanded_queue : (command : ClientCommand) (name : ℕ) → named s.cells name ≡ None → (n : ℕ) → Untouched p c s command n →
      SameQueue (commanded p c s command name).cells n
  commanded_queue (Connect class slots) name free n away = by_connecting p c s (λ t. SameQueue t.cells n) refl (refusal p c s (Connect class slots))
      (asked_server p class s.cells) slots (λ x e. ap (λ (v : Service). v.queue) (service_there s.cells x.name n _ (other x.name n (away x e))))
  commanded_queue (Send words) name free n away =
      grind (arith, nat_tests, by_sending p c s, service_there s.cells, other, service_unnamed s.cells n, eqb-true name n)
  commanded_queue Close name free n away = leaving_queue (row (client_at s.clients c)).close n away
  commanded_queue Die name free n away = leaving_queue (row (client_at s.clients c)).die n away
