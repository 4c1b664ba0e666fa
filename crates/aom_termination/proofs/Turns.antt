-- What a turn may still cost: the price of the class whose object is dispatched, or nothing more.
use Rattle.std.proofs.lemmas.Bool.Decides.{nat_tests}
use Rattle.std.proofs.Common.{ℤ, ◌≡◌, ◌≤◌, ◌+◌, ◌∙◌, ℕ, true, false, List, [], ◌∷◌, Option, Some, None, refl, ap, arith, subst, Bool, length}
use Rattle.aom_image.specs.Image.{Image}
use Rattle.aom_image.specs.Views.{method_at}
use Rattle.aom_image.specs.declared.method.Role.TheVariants.{Accept as Accepts_role, Error, Run as Handles, Service as Attends}
use Rattle.aom_image.specs.declared.method.Thing.{Thing}
use Rattle.aom_image.specs.declared.method.Thing.TheVariants.{Message, Object as An_object_of}
use Rattle.aom_typing_rules.specs.Typing.{Typing}
use Rattle.aom_termination.proofs.SafetyLemmas.{Picked, Polled, accepts, answers, at_rest, attends, found, goes_same, handles, linked_is_family, nothing, parts}
use Rattle.aom_termination.proofs.SafetyLemmas.{picked_so, polled_so, stands_session_of}
use Rattle.aom_safety.specs.Laws.{IsFamily}
use Rattle.aom_safety.specs.Counting.{starts}
use Rattle.aom_semantics.specs.Requests.{completed_with, on_request, part_of, recorded, taken_up, timed_out}
use Rattle.aom_semantics.specs.Natives.{detached}
use Rattle.aom_semantics.specs.Places.{Message_of, service_of, Cell, Object, Request, requested, Elsewhere}
use Rattle.aom_semantics.specs.Places.{Going, In_service, Place, Queued, Session, NoDuplicates, held, moved, named}
use Rattle.aom_semantics.specs.State.{Goes, Counters, OwnedObject, State, Dispatched, Of_server, Disconnects}
use Rattle.aom_safety.specs.WellTyped.{Good, WellTyped, Now}
use Rattle.aom_semantics.specs.World.{Completes, Cuts, Observes, Kills, Passes, Picks, Polls, Turning, Waits, observed_one, past_native}
use Rattle.aom_semantics.specs.World.{turned, turning, with_request, without_native, Candidate, Executes}
use Rattle.aom_semantics.specs.World.{first_ready, picks, taken_from}
use Rattle.aom_static_bounds.specs.Prices.{Prices, perhaps_price, price, IsPriced}
use Rattle.aom_termination.specs.Laws.{TurnsPay}
use Rattle.aom_termination.specs.Left.{left, objects_left, operations_left, is_entry}
use Rattle.aom_termination.specs.BudgetOwners.{class_of, budget_owner, price_of}
use Rattle.aom_termination.proofs.Emptied.{no_current_task}
use Rattle.aom_termination.proofs.Paying.{fresh_rounds, begun_left}
use Rattle.aom_termination.proofs.Pushed.{asked_same, reset_same, moved_less, served_same, withdrawn_same}
use Rattle.aom_roles.specs.Classes.{sessions_in}
use Rattle.aom_termination.proofs.Classes.{acceptor_serves, plain_session, run_price, server_price}
use Rattle.aom_termination.proofs.Sessions.{of_claim}
use Rattle.aom_roles.specs.Shapes.{kind_of}
use Rattle.std.specs.Prelude.{is_some}
use Rattle.aom_semantics.specs.Servers.{asked_last, is_queue, session_class, withdrawn}
use Rattle.aom_termination.proofs.BudgetOwners.{begun_budget_owner}
use Rattle.aom_semantics.specs.Destruction.{begun}
use Rattle.aom_clients.specs.declared.refusal.CommandRefusal.{CommandRefusal}
use Rattle.aom_clients.specs.declared.client.Client.TheVariants.{Open}
use Rattle.aom_link_conditions.specs.Linked.{IsLinked}
use Rattle.aom_transcript.specs.declared.event.ClientCommand.{ClientCommand}
use Rattle.aom_transcript.specs.declared.event.ClientCommand.TheVariants.{Connect, Send}
use Rattle.aom_semantics.specs.Clients.{Listed, client_at, commanded, connecting, leaving, sending, reported}
use Rattle.aom_clients.specs.declared.client.Client.{Client}

-- ---- a turn that dispatches no object

module _ (p : Image) (c : Prices) (s : State) (idle : s.tasks ≡ []) where
  abbrev Passed : State → Type 0
  Passed u = (u.tasks ≡ []) × (left p c u ≡ left p c s)

  passed : (u v : State) → Goes v ≡ Goes u → Passed v → Passed u
  passed u v e h = subst Passed (goes_same v u e) h

  -- other cells, of which as much is left: no server goes
  with_cells : (u : State) → u.tasks ≡ s.tasks → u.items ≡ s.items → objects_left c u.cells ≡ objects_left c s.cells → Passed u
  with_cells u tasks items same = grind (arith, nat_tests)

  completed : (f : Request → Request) (o : Object) (r : Counters) → Passed (record s { cells = with_request f o s.cells; rest = r })
  completed f o r = grind (arith, nat_tests, with_cells, asked_same)

  polling : (u : State) (n : ℕ) → Polled n s u → Passed u
  polling u n d = elim d as (λ v d. Passed v) [ nothing ↦ (idle, refl) | answers o code ↦ completed (completed_with (recorded code)) o (past_native n s).rest ]

  killing : (n : ℕ) → Passed (without_native p n (observed_one s))
  killing n = with_cells (without_native p n (observed_one s)) refl refl (reset_same c is_entry (λ x. (detached p n x).request) (λ x. (detached p n x).session) s.cells)

  -- a command makes and takes back messages in queues alone
  executing : (client : ℕ) (command : ClientCommand) (name : ℕ) → Passed (commanded p client (observed_one s) command name)
  executing client command name = by command
    where
      v : State
      v = observed_one s

      unqueued : (r : Place) → is_queue r ≡ true → is_entry r ≡ false
      unqueued r e = grind arith

      connects : (refused : Option CommandRefusal) (server : Option Listed) (slots : ℕ) → Passed (connecting p client v refused server slots)
      connects None (Some y) slots = with_cells (connecting p client v None (Some y) slots) refl refl (served_same c is_entry y.name _ s.cells)
      connects _ _ slots = with_cells v refl refl refl

      sends : (refused : Option CommandRefusal) (own : Client) (words : List ℤ) → Passed (sending p client v refused own name words)
      sends None (Open server session slots) words = with_cells (sending p client v None (Open server session slots) name words) refl refl
          (omega (arith, served_same c is_entry server (asked_last (Message_of client name) (service_of s.cells server)) s.cells))
      sends _ _ words = with_cells v refl refl refl

      reported_same : (own : Client) (cs : List Cell) → objects_left c (reported p client v own cs) ≡ objects_left c cs
      reported_same (Open server session slots) cs = served_same c is_entry server _ cs
      reported_same _ cs = refl

      leaves : (to : Option Client) → Passed (leaving p client v to)
      leaves None = with_cells v refl refl refl
      leaves (Some to) = with_cells (leaving p client v (Some to)) refl refl
          (reported_same (client_at s.clients client) (withdrawn client s.cells) ∙ withdrawn_same c is_entry unqueued client s.cells)

      by : (command : ClientCommand) → Passed (commanded p client v command name)
      by (Connect class slots) = connects _ _ slots
      by (Send words) = sends _ _ words
      by _ = leaves _

  passing : (x : Turning) → starts x ≡ false → (u : State) → turned p s x ≡ Goes u → Passed u
  passing Cuts f u e = passed u _ e (idle, refl)
  passing (Completes o) f u e = passed u _ e (completed timed_out o s.rest)
  passing Observes f u e = passed u _ e (idle, refl)
  passing (Kills n) f u e = passed u _ e (killing n)
  passing (Polls n answer) f u e = polling u n (polled_so p s u n answer e)
  passing (Executes client command name) f u e = passed u _ e (executing client command name)
  passing (Passes time) f u e = passed u _ e (idle, refl)
  passing Waits f u e = passed u _ e (idle, refl)
  passing _ f u e = cc

-- ---- and one that dispatches an object or a server

at_rest_good : (p : Image) (t : Typing) (s : State) → WellTyped p t s → s.tasks ≡ [] → Good p t s.cells []
at_rest_good p t s w idle = subst (λ ls. Good p t s.cells ls) (at_rest p t s w idle) w.good

-- nothing is on the cleanup stack between dispatches
none_between : (p : Image) (t : Typing) (c : Prices) (s : State) → WellTyped p t s → s.tasks ≡ [] → objects_left c s.cells + operations_left c s.items ≡ 0
none_between p t c s w idle = no_current_task c p t s.cells s.items (at_rest_good p t s w idle) (rw (at_rest p t s w idle) at w.items)

-- what is picked lives
abbrev Lives : State → Turning → Type 0
Lives s (Picks x) = named s.cells x.object.name ≡ Some x.object
Lives s _ = Unit {0}

module _ (s : State) (no_duplicates : NoDuplicates s.cells) where
  picks_lives : (b : Bool) (y : Option Candidate) → first_ready s.cells ≡ y → (next : Option ℕ) → Lives s (picks b y next)
  picks_lives true None e next = tt
  picks_lives true (Some y) e next = (found s.cells no_duplicates y e).lives
  picks_lives false y e None = tt
  picks_lives false y e (Some time) = tt

module _ (p : Image) (t : Typing) (c : Prices) (family : IsFamily p) (linked : IsLinked p) (priced : IsPriced p t c) (s : State) (good : Good p t s.cells [])
    (bare : objects_left c s.cells + operations_left c s.items ≡ 0) (x : OwnedObject) (there : named s.cells x.object.name ≡ Some x.object) where
  abbrev Paid : State → Type 0
  Paid u = left p c u ≤ price_of p c (budget_owner u.tasks)

  -- with so much for what begins, and for its end
  abbrev Affords : Thing → ℕ → Type 0
  Affords y n = n + perhaps_price c (part_of p Error y) ≤ price_of p c (class_of y)

  runs : (y : Thing) (m : ℕ) → part_of p Handles y ≡ Some m → Affords y (price c m)
  runs y m e = grind (arith, run_price p linked)

  accepts_within : (y : Thing) (m : ℕ) → part_of p Accepts_role y ≡ Some m → Affords y (price c m)
  accepts_within (An_object_of k) m e = go (sessions_in (kind_of p (Some k))) refl (acceptor_serves p linked k c m e)
    where
      go : (session : Option ℕ) → sessions_in (kind_of p (Some k)) ≡ session → is_some session ≡ true → Affords (An_object_of k) (price c m)
      go (Some session) at some = omega (arith, (server_price p linked k c session at).accepts, ap (λ o. perhaps_price c o) e)
      go None at some = cc
  accepts_within Message m e = cc

  no_message : (session : ℕ) → session_class p Message ≡ Some session → ⊥
  unfolding kind_of sessions_in
  no_message session e = cc

  -- a session with it is of the class of its sessions
  abbrev IsSessionOf : Thing → Object → Type 0
  IsSessionOf y o = (session : ℕ) × (session_class p y ≡ Some session) × (o.thing ≡ An_object_of session)

  session_there : (client : ℕ) (o : Object) → held s.cells (Elsewhere (Session x.object.name client)) ≡ Some o → IsSessionOf x.object.thing o
  session_there client o held_there =
      grind (arith, nat_tests, of_claim p t s.cells x.object.name client x.object o there Now, stands_session_of p family x.object.thing)

  attends_within : (y : Thing) (o : Object) (m : ℕ) → IsSessionOf y o → part_of p Attends o.thing ≡ Some m → Affords y (price c m)
  attends_within (An_object_of k) o m is e = grind (arith, nat_tests, server_price p linked k c is.0 is.1)
  attends_within Message o m is e = absurd (no_message is.0 is.1)

  parts_within : (y : Thing) (o : Object) → IsSessionOf y o → Affords y (c.destruction o.thing)
  parts_within (An_object_of k) o is = omega (arith, (server_price p linked k c is.0 is.1).parts, ap (λ z. c.destruction z) is.2)
  parts_within Message o is = absurd (no_message is.0 is.1)

  -- it is no server itself
  taken_same : objects_left c (taken_from x.object.name s).cells ≡ objects_left c s.cells
  taken_same = served_same c is_entry x.object.name _ s.cells

  pub picked_pays : (u : State) → Picked p s x u → Paid u
  picked_pays u d = elim d as (λ v e. Paid v) [
    | handles m at ↦ omega (
      arith,
      runs x.object.thing m at,
      fresh_rounds c m (method_at p m),
      bare,
      asked_same c is_entry x.object.name (on_request taken_up (requested s.cells x.object.name)) s.cells,
    )
    | accepts client m at ↦ omega (arith, accepts_within x.object.thing m at, fresh_rounds c m (method_at p m), bare, taken_same)
    | attends client message m o here at ↦ omega (
      arith,
      attends_within x.object.thing o m (session_there client o here) at,
      fresh_rounds c m (method_at p m),
      bare,
      taken_same,
      moved_less c is_entry (Elsewhere (Queued x.object.name message)) (Elsewhere In_service) (taken_from x.object.name s).cells refl,
    )
    | parts client o here ↦ parted_pays client o (session_there client o here)
  ]
    where
      parted_pays : (client : ℕ) (o : Object) → IsSessionOf x.object.thing o → Paid (record (taken_from x.object.name s) {
        cells = moved (Elsewhere (Session x.object.name client)) (Going 1) (taken_from x.object.name s).cells;
        tasks = begun p o (length s.items) (Dispatched (Of_server x client Disconnects) ∷ []);
      })
      parted_pays client o is =
          let below = Dispatched (Of_server x client Disconnects) ∷ [] in
          let us = moved (Elsewhere (Session x.object.name client)) (Going 1) (taken_from x.object.name s).cells in
          let begins = begun_left p t c priced o (length s.items) below us (λ server. absurd (grind (arith, nat_tests, plain_session, no_message))) in
          let less = moved_less c is_entry (Elsewhere (Session x.object.name client)) (Going 1) (taken_from x.object.name s).cells refl in
          omega (arith, begins, parts_within x.object.thing o is, less, bare, taken_same, ap (λ y. price_of p c y) (begun_budget_owner p o (length s.items) below))

pub picking : (p : Image) (t : Typing) (c : Prices) → IsFamily p → IsLinked p → IsPriced p t c → (s : State) → WellTyped p t s →
    s.tasks ≡ [] → (x : Turning) → Lives s x → starts x ≡ true → (u : State) → turned p s x ≡ Goes u → left p c u ≤ price_of p c (budget_owner u.tasks)
picking p t c family linked priced s w idle (Picks x) there f u e =
    picked_pays p t c family linked priced s (at_rest_good p t s w idle) (none_between p t c s w idle) x there u (picked_so p s u x e)
picking p t c family linked priced s w idle _ there f u e = cc

pub turns_pay : TurnsPay
turns_pay = record {
  begins = λ p t c formed linked priced outside observed s u w idle e f. picking p t c
      (linked_is_family p linked formed) linked priced s w idle (turning outside observed s) (grind (arith, nat_tests, picks_lives)) f u e;
  passes = λ p c outside observed s u idle e f. passing p c s idle (turning outside observed s) f u e;
}
