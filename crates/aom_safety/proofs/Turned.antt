-- What a turn changes: nothing but what no place tells, the request of an object that is completed, what a native that is killed
-- leaves behind, or what a client's command comes to, or all that a dispatch begins with.
use Rattle.std.proofs.lemmas.Bool.Decides.{nat_tests}
use Rattle.std.proofs.Common.{arith, Bool, List, None, Option, Some, cond, false, negsuc, pos, refl, subst, ℕ, ℤ, ◌∷◌, ◌≡◌}
use Rattle.std.specs.Ordering.{int_eq}
use Rattle.aom_safety.proofs.ImageLemmas.{some_given}
use Rattle.aom_image.specs.Image.{Image}
use Rattle.aom_image.specs.declared.method.Role.TheVariants.{Accept as Accepts_role, Service as Attends, Run as Handles}
use Rattle.aom_safety.proofs.Guarded.{goes_same, guarded_goes}
use Rattle.aom_semantics.specs.Requests.{completed_with, part_of, pending, recorded, taken_up}
use Rattle.aom_semantics.specs.Natives.{all_detached, is_outstanding_at}
use Rattle.aom_semantics.specs.Places.{Asked, Connect_of, Message_of, Close_of, Elsewhere, Session, In_service, Queued, Going, held, moved, Object}
use Rattle.aom_semantics.specs.State.{Dispatched, Of_server, Accepts, Serves, Disconnects, frame_of, Inside, A_mark, CompletedTwice, Goes, Counters, OwnedObject, State}
use Rattle.aom_semantics.specs.World.{Executes, observed_one, serving, taken_from, message_words, serves_first, attending, attended, picked as any_picked}
use Rattle.aom_semantics.specs.World.{Completes, Completion, Observed, Kills, Environment, Picks, Polls, Strays, Turning, answered_by, cell_at}
use Rattle.aom_semantics.specs.World.{dispatched, past_native, polled, run_tasks, turn, turned, turning, with_request}
use Rattle.std.specs.Prelude.{[], length}
use Rattle.aom_semantics.specs.Clients.{commanded}
use Rattle.aom_semantics.specs.Destruction.{begun}
use Rattle.aom_transcript.specs.declared.event.ClientCommand.{ClientCommand}

abbrev pub picked : ℕ → OwnedObject → State → State
picked m x s = record s {
  cells = with_request taken_up x.object s.cells;
  tasks = run_tasks m x (length (A_mark ∷ s.items));
  items = A_mark ∷ s.items;
  rest = record s.rest { steps = 0; polled = 0 };
}

-- what the dispatch of an object or a server begins with
pub data Picked (p : Image) (s : State) (x : OwnedObject) : State → Type 0 where
  handles : (m : ℕ) → part_of p Handles x.object.thing ≡ Some m → Picked p s x (picked m x s)
  accepts : (client m : ℕ) → part_of p Accepts_role x.object.thing ≡ Some m →
      Picked p s x (serving x client Accepts (frame_of m (Inside x.object x.place) (length (A_mark ∷ s.items))) (taken_from x.object.name s))
  attends : (client message m : ℕ) (o : Object) → held s.cells (Elsewhere (Session x.object.name client)) ≡ Some o → part_of p Attends o.thing ≡ Some m →
      Picked p s x (serving x client (Serves o) (record (frame_of m (Inside o (Elsewhere (Session x.object.name client))) (length (A_mark ∷ s.items)))
      { words = message_words (taken_from x.object.name s).cells message })
      (record (taken_from x.object.name s) { cells = moved (Elsewhere (Queued x.object.name message)) (Elsewhere In_service) (taken_from x.object.name s).cells }))
  parts : (client : ℕ) (o : Object) → held s.cells (Elsewhere (Session x.object.name client)) ≡ Some o → Picked p s x (record (taken_from x.object.name s) {
    cells = moved (Elsewhere (Session x.object.name client)) (Going 1) (taken_from x.object.name s).cells;
    tasks = begun p o (length s.items) (Dispatched (Of_server x client Disconnects) ∷ []);
  })

pub data Turned (p : Image) (s : State) : State → Type 0 where
  keeps_all : (r : Counters) → Turned p s (record s { rest = r })
  completes : (code : ℤ) (o : Object) (r : Counters) → int_eq code pending ≡ false →
      Turned p s (record s { cells = with_request (completed_with code) o s.cells; rest = r })
  kills : (n : ℕ) (r : Counters) (killed : List ℕ) → Turned p s (record s { cells = all_detached p n s.cells; rest = r; killed = killed })
  executes : (client : ℕ) (command : ClientCommand) (name : ℕ) → Turned p s (commanded p client (observed_one s) command name)
  picks : (x : OwnedObject) (u : State) → Picked p s x u → Turned p s u

pub dispatched_so : (p : Image) (s u : State) (x : OwnedObject) → dispatched (part_of p Handles x.object.thing) x s ≡ Goes u →
    (m : ℕ) × (part_of p Handles x.object.thing ≡ Some m) × (u ≡ picked m x s)
dispatched_so p s u x e = grind (arith, nat_tests)

-- the first of a server's queue is served
serves_so : (p : Image) (s u : State) (x : OwnedObject) (queue : List Asked) → serves_first p x queue s ≡ Goes u → Picked p s x u
serves_so p s u x [] e = cc
serves_so p s u x (Connect_of client ∷ es) e = grind (arith, nat_tests, some_given, goes_same, accepts)
serves_so p s u x (Message_of client message ∷ es) e = some_given (λ o. attended p x client o message (taken_from x.object.name s) ≡ Goes u)
    (held s.cells (Elsewhere (Session x.object.name client))) e (λ stuck. cc) (λ o there e.
    some_given (λ m. attending m x client o message (taken_from x.object.name s) ≡ Goes u) (part_of p Attends o.thing) e (λ stuck. cc) (λ m at e.
    subst (λ v. Picked p s x v) (goes_same _ u e) (attends client message m o there at)))
serves_so p s u x (Close_of client ∷ es) e = grind (arith, nat_tests, some_given, goes_same, parts)

pub picked_so : (p : Image) (s u : State) (x : OwnedObject) → any_picked p x s ≡ Goes u → Picked p s x u
picked_so p s u x e = grind (arith, nat_tests, serves_so, dispatched_so, handles)

-- steps are counted anew, and natives are polled anew
pub picked_rest : (p : Image) (s u : State) (x : OwnedObject) → any_picked p x s ≡ Goes u → u.rest ≡ record s.rest { steps = 0; polled = 0 }
picked_rest p s u x e = grind (arith, nat_tests, picked_so p s u x e, handles, accepts, attends, parts)

-- ---- a command of a client

-- changes nothing of what no place tells, and no task
module _ (p : Image) (client : ℕ) (s : State) where
  abbrev Keeps_rest : State → Type 0
  Keeps_rest u = (u.rest ≡ s.rest) × (u.tasks ≡ s.tasks)

  pub commanded_kept : (command : ClientCommand) (name : ℕ) → Keeps_rest (commanded p client s command name)
  commanded_kept x name = grind (arith, nat_tests)

-- ---- a native that is polled

-- what is recorded of a completion is not pending
pub recorded_so : (code : ℤ) → int_eq (recorded code) pending ≡ false
recorded_so code = go (int_eq code pending) refl
  where
    go : (b : Bool) → int_eq code pending ≡ b → int_eq (cond b (negsuc 1) code) pending ≡ false
    go x e = grind arith

-- it completes nothing, or the request of an object
pub data Polled (n : ℕ) (s : State) : State → Type 0 where
  nothing : Polled n s (past_native n s)
  answers : (o : Object) (code : ℤ) → Polled n s (past_native n (record s { cells = with_request (completed_with (recorded code)) o s.cells }))

pub polled_so : (p : Image) (s u : State) (n : ℕ) (answer : Option Completion) → polled p n answer s ≡ Goes u → Polled n s u
polled_so p s u n None e = subst (λ v. Polled n s v) (goes_same _ u e) nothing
polled_so p s u n (Some a) e = some_given (λ c. answered_by p n c a.code s ≡ Goes u) (cell_at s.cells a.cell) e (λ stuck. cc)
    (λ c there e. subst (λ v. Polled n s v) (guarded_goes ((is_outstanding_at p n c, CompletedTwice) ∷ []) _ u e) (answers c.object a.code))

-- that it is polled is all that no place tells
pub polled_rest : (p : Image) (s u : State) (n : ℕ) (answer : Option Completion) → polled p n answer s ≡ Goes u → u.rest ≡ (past_native n s).rest
polled_rest p s u n answer e = grind (arith, nat_tests, polled_so p s u n answer e, nothing, answers)

polled_turned : (p : Image) (s u : State) (n : ℕ) → Polled n s u → Turned p s u
polled_turned p s u n d = elim d as (λ v d. Turned p s v) [ nothing ↦ keeps_all _ | answers o code ↦ completes (recorded code) o _ (recorded_so code) ]

turned_so : (p : Image) (s u : State) (k : Turning) → turned p s k ≡ Goes u → Turned p s u
turned_so p s u (Completes o) e = subst (λ v. Turned p s v) (goes_same _ u e) (completes (pos 0) o s.rest refl)
turned_so p s u (Kills n) e = subst (λ v. Turned p s v) (goes_same _ u e) (kills n _ _)
turned_so p s u (Polls n answer) e = polled_turned p s u n (polled_so p s u n answer e)
turned_so p s u (Executes client command name) e = subst (λ v. Turned p s v) (goes_same _ u e) (executes client command name)
turned_so p s u (Picks x) e = picks x u (picked_so p s u x e)
turned_so p s u Strays e = cc
turned_so p s u _ e = subst (λ v. Turned p s v) (goes_same _ u e) (keeps_all _)

pub turns_so : (p : Image) (outside : Environment) (observed : Observed) (s u : State) → turn p outside observed s ≡ Goes u → Turned p s u
turns_so p outside observed s u e = turned_so p s u (turning outside observed s) e
