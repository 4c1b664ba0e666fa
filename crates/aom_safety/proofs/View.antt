-- The tasks of a well-typed state as a stack on which only what can stand on a layer is written: for proofs that split what stands under a method, a going cell
-- or a leave.
use Rattle.std.proofs.lemmas.Bool.Decides.{nat_tests}
use Rattle.std.proofs.Common.{ℕ, arith, List, [], ap, refl, ◌∙◌, ◌∷◌, ◌≡◌, ℤ}
use Rattle.aom_image.specs.Image.{Image}
use Rattle.aom_typing_rules.specs.Typing.{Typing}
use Rattle.aom_safety.specs.Claims.{Ending, Dispatching, Dying, Layer, Mark, Method, Unwinding, tasks_of}
use Rattle.aom_semantics.specs.Places.{Cell}
use Rattle.aom_semantics.specs.State.{Closing, Of_server, Disconnects, Stage, Destroy, Dispatch, Dispatched, Asks, Frame}
use Rattle.aom_semantics.specs.State.{Of_main, Of_object, Of_root, Run, OwnedObject, State, Task, Trapped, Unwind}
use Rattle.aom_safety.specs.WellTyped.{Back, Caught, Gone, Leaves, Now, Returns, Stack, WellTyped}

-- what stands over a layer: a method, a cell that goes, or a leave
pub data Over : Type 0 where
  A_method : Over
  A_going : Over
  A_leave : Over

pub data Under : Over → Type 0 where
  -- a method that waits for the one that it called
  Caller : Frame → Under A_method → Under A_method
  Under_trap : Under A_leave → Under A_method
  -- a dispatch that waits for its answer
  Asker : OwnedObject → Under A_method
  -- a cell whose destructor runs
  Destroyed : Under A_going → Under A_method
  -- a leave that runs an operation, or has an object destroyed
  Undoing : (code : ℤ) → Under A_leave → Under A_method
  Clearing : (code : ℤ) → Under A_leave → Under A_going
  -- a method that waits until a cell is gone
  Deleter : Frame → Under A_method → Under A_going
  The_root : Under A_going
  -- a server that goes, the session of which goes first
  Its_server : Under A_going → Under A_going
  -- a close that is served
  A_close : OwnedObject → (client : ℕ) → Under A_going
  -- who set the trap
  Catcher : Frame → Under A_method → Under A_leave
  Main's : Under A_leave
  Object's : OwnedObject → Under A_leave
  Server's : OwnedObject → (client : ℕ) → Stage → Under A_leave

pub data TrapNesting : Type 0 where
  Runs : Frame → Under A_method → TrapNesting
  Goes : Under A_going → TrapNesting
  -- a server that goes, with sessions
  Closes : Under A_going → TrapNesting
  Unwinds : (code : ℤ) → Under A_leave → TrapNesting
  Ends : Dispatch → TrapNesting
  Idle : TrapNesting

-- the same as a list
abbrev pub listed : {k : Over} → Under k → List Task
listed (Caller fr b) = Run fr ∷ listed b
listed (Under_trap b) = Trapped ∷ listed b
listed (Destroyed b) = Destroy ∷ listed b
listed (Undoing code b) = Unwind code ∷ Trapped ∷ listed b
listed (Clearing code b) = Unwind code ∷ Trapped ∷ listed b
listed (Deleter fr b) = Run fr ∷ listed b
listed The_root = Dispatched Of_root ∷ []
listed (Catcher fr b) = Run fr ∷ listed b
listed (Its_server b) = Closing ∷ Destroy ∷ listed b
listed (A_close x client) = Dispatched (Of_server x client Disconnects) ∷ []
listed Main's = Dispatched Of_main ∷ []
listed (Object's x) = Dispatched (Of_object x) ∷ []
listed (Server's x client stage) = Dispatched (Of_server x client stage) ∷ []
listed (Asker x) = Dispatched (Asks x) ∷ []

abbrev pub all_listed : TrapNesting → List Task
all_listed (Runs fr b) = Run fr ∷ listed b
all_listed (Goes b) = Destroy ∷ listed b
all_listed (Closes b) = Closing ∷ Destroy ∷ listed b
all_listed (Unwinds code b) = Unwind code ∷ Trapped ∷ listed b
all_listed (Ends d) = Dispatched d ∷ []
all_listed Idle = []

-- what stands under that
abbrev IsUnder : Back → List Task → Type 0
IsUnder Now ts = (k : TrapNesting) × (ts ≡ all_listed k)
IsUnder (Returns m receiver) ts = (b : Under A_method) × (ts ≡ listed b)
IsUnder (Caught g) ts = (b : Under A_leave) × (ts ≡ listed b)
IsUnder Gone ts = (b : Under A_going) × (ts ≡ listed b)
IsUnder Leaves ts = (b : Under A_leave) × (ts ≡ Trapped ∷ listed b)

under : (p : Image) (t : Typing) (cs : List Cell) (back : Back) (ls : List Layer) → Stack p t cs back ls → IsUnder back (tasks_of ls)
under p t cs Now [] s = (Idle, refl)
under p t cs Now (Method fr sh ∷ ls) s = let b = under p t cs (Returns fr.method fr.receiver) ls s.4 in (Runs fr b.0, ap (λ l. Run fr ∷ l) b.1)
under p t cs Now (Dying o ∷ ls) s = let b = under p t cs Gone ls s.2 in (Goes b.0, ap (λ l. Destroy ∷ l) b.1)
under p t cs Now (Unwinding code es ∷ ls) s = let b = under p t cs Leaves ls s.1 in (Unwinds code b.0, ap (λ l. Unwind code ∷ l) b.1)
under p t cs Now (Dispatching d owned_chain ∷ ls) s = (Ends d, ap (λ l. Dispatched d ∷ tasks_of l) s.1)
under p t cs (Returns m receiver) (Method fr sh ∷ ls) s = let b = under p t cs (Returns fr.method fr.receiver) ls s.4 in (Caller fr b.0, ap (λ l. Run fr ∷ l) b.1)
under p t cs (Returns m receiver) (Mark gv ∷ ls) s = let b = under p t cs (Caught gv) ls s.1 in (Under_trap b.0, ap (λ l. Trapped ∷ l) b.1)
under p t cs (Returns m receiver) (Dying o ∷ ls) s = let b = under p t cs Gone ls s.2 in (Destroyed b.0, ap (λ l. Destroy ∷ l) b.1)
under p t cs (Returns m receiver) (Unwinding code es ∷ ls) s = let b = under p t cs Leaves ls s.1 in (Undoing code b.0, ap (λ l. Unwind code ∷ l) b.1)
under p t cs (Caught g) (Method fr sh ∷ ls) s = let b = under p t cs (Returns fr.method fr.receiver) ls s.4 in (Catcher fr b.0, ap (λ l. Run fr ∷ l) b.1)
under p t cs (Caught g) (Dispatching Of_main owned_chain ∷ ls) s = (Main's, ap (λ l. Dispatched Of_main ∷ tasks_of l) s.1)
under p t cs (Caught g) (Dispatching (Of_object x) owned_chain ∷ ls) s = (Object's x, ap (λ l. Dispatched (Of_object x) ∷ tasks_of l) s.1)
under p t cs (Returns m receiver) (Dispatching (Asks x) owned_chain ∷ ls) s = (Asker x, ap (λ l. Dispatched (Asks x) ∷ tasks_of l) s.1)
under p t cs Gone (Method fr sh ∷ ls) s = let b = under p t cs (Returns fr.method fr.receiver) ls s.4 in (Deleter fr b.0, ap (λ l. Run fr ∷ l) b.1)
under p t cs Gone (Unwinding code es ∷ ls) s = let b = under p t cs Leaves ls s.1 in (Clearing code b.0, ap (λ l. Unwind code ∷ l) b.1)
under p t cs Gone (Dispatching Of_root owned_chain ∷ ls) s = (The_root, ap (λ l. Dispatched Of_root ∷ tasks_of l) s.1)
under p t cs Leaves (Mark gv ∷ ls) s = let b = under p t cs (Caught gv) ls s.1 in (b.0, ap (λ l. Trapped ∷ l) b.1)
under p t cs Now (Ending o left ∷ Dying x ∷ ls) s = let b = under p t cs Gone ls s.3.2 in (Closes b.0, ap (λ l. Closing ∷ Destroy ∷ l) b.1)
under p t cs Gone (Ending o left ∷ Dying x ∷ ls) s = let b = under p t cs Gone ls s.3.2 in (Its_server b.0, ap (λ l. Closing ∷ Destroy ∷ l) b.1)
under p t cs Gone (Dispatching (Of_server x client Disconnects) owned_chain ∷ ls) s = (A_close x client, ap (λ l. Dispatched (Of_server x client Disconnects) ∷ tasks_of l) s.1)
under p t cs (Caught g) (Dispatching (Of_server x client stage) owned_chain ∷ ls) s = (Server's x client stage, grind (arith, nat_tests))
under p t cs _ _ s = absurd (grind arith)

pub stacked : (p : Image) (t : Typing) (s : State) → WellTyped p t s → (k : TrapNesting) × (s.tasks ≡ all_listed k)
stacked p t s w = let u = under p t s.cells Now w.layers w.good.stack in (u.0, w.tasks ∙ u.1)

-- nothing stands under a dispatch
pub under_dispatch : (p : Image) (t : Typing) (s : State) (d : Dispatch) (ts : List Task) → WellTyped p t s → s.tasks ≡ Dispatched d ∷ ts → ts ≡ []
under_dispatch p t s d ts w at = grind (arith, nat_tests, stacked p t s w)
