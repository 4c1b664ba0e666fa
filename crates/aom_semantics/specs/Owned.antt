-- Each cell has exactly one living owner, no place owns two, and no destruction is at hand.
use Rattle.std.specs.Prelude.{ℕ, ◌==◌, ◌≡◌, cond, List, [], ◌∷◌, Option, Some, None, IsSome, length, Bool, true, false}
use Rattle.aom_image.specs.Image.{Image}
use Rattle.aom_instructions.specs.Operands.{IsRegister}
use Rattle.aom_roles.specs.Things.{Program, field_thing}
use Rattle.aom_semantics.specs.Servers.{has_message, has_session}
use Rattle.aom_semantics.specs.Places.{Place, Register, Entry, Field, Going, Elsewhere, Other, Root, Session, In_service, Queued, Object, Cell, NoDuplicates, held, named, other_cell, service_of}
use Rattle.aom_semantics.specs.State.{Task, Run, Trapped, Destroy, Unwind, Dispatched, Item, An_object, An_operation, A_mark, State, thing_holder, Closing, Of_server, Stage, Serves, Service_left}

-- what stands over so many others
abbrev pub over : {A : Type 0} → List A → ℕ → Option A
over [] k = None
over (x ∷ xs) k = cond (length xs == k) (Some x) (over xs k)

-- of the tasks a method alone has registers
abbrev pub HasRegisters : Option Task → Type 0
HasRegisters None = ⊥
HasRegisters (Some (Run fr)) = Unit {0}
HasRegisters (Some Trapped) = ⊥
HasRegisters (Some Destroy) = ⊥
HasRegisters (Some Closing) = ⊥
HasRegisters (Some (Unwind code)) = ⊥
HasRegisters (Some (Dispatched d)) = ⊥

-- of the cleanup items an object's alone owns
abbrev pub IsObjects : Option Item → Type 0
IsObjects None = ⊥
IsObjects (Some An_object) = Unit {0}
IsObjects (Some (An_operation m w)) = ⊥
IsObjects (Some A_mark) = ⊥

-- a message is served
abbrev pub is_serving : Stage → Bool
is_serving (Serves o) = true
is_serving (Service_left code) = true
is_serving _ = false

abbrev pub HasService : List Task → Type 0
HasService [] = ⊥
HasService (Run fr ∷ ts) = HasService ts
HasService (Trapped ∷ ts) = HasService ts
HasService (Destroy ∷ ts) = HasService ts
HasService (Closing ∷ ts) = HasService ts
HasService (Unwind code ∷ ts) = HasService ts
HasService (Dispatched (Of_server x c stage) ∷ ts) = is_serving stage ≡ true
HasService (Dispatched d ∷ ts) = ⊥

-- the root lives where the image has one, a session while its client is among those of a server that stands, a message while it is served or in a server's queue
abbrev pub LivesOf : Image → State → Other → Type 0
LivesOf p s Root = IsSome (field_thing p Program 0)
LivesOf p s (Session n c) = (o : Object) × (named s.cells n ≡ Some o) × (has_session (service_of s.cells n) c ≡ true)
LivesOf p s In_service = HasService s.tasks
LivesOf p s (Queued n m) = (o : Object) × (named s.cells n ≡ Some o) × (has_message (service_of s.cells n) m ≡ true)

-- a place lives while its method is at hand, its item lies there or its cell, whose class has that field, stands
abbrev pub Lives : Image → State → Place → Type 0
Lives p s (Register f i) = HasRegisters (over s.tasks f) × IsRegister i
Lives p s (Entry k) = IsObjects (over s.items k)
Lives p s (Field n f) = (o : Object) × (named s.cells n ≡ Some o) × IsSome (field_thing p (thing_holder o.thing) f)
Lives p s (Going k) = over s.tasks k ≡ Some Destroy
Lives p s (Elsewhere o) = LivesOf p s o

-- following owners ends at a register, a cleanup entry, the root or the message that is served
pub data Ends (s : State) : Place → Type 0 where
  at_register : {f i : ℕ} → Ends s (Register f i)
  at_entry : {k : ℕ} → Ends s (Entry k)
  at_root : Ends s (Elsewhere Root)
  at_service : Ends s (Elsewhere In_service)
  by_cell : {n f : ℕ} (o : Object) (q : Place) → named s.cells n ≡ Some o → held s.cells q ≡ Some o → Ends s q → Ends s (Field n f)
  by_server : {w : Other} {n : ℕ} (o : Object) (q : Place) → other_cell w ≡ Some n → named s.cells n ≡ Some o → held s.cells q ≡ Some o → Ends s q → Ends s (Elsewhere w)

-- each cell has an owner, which lives and chains to such an end. The owner stands in the cell's record, so it is one
abbrev pub AllOwned : Image → State → List Cell → Type 0
AllOwned p s [] = Unit {0}
AllOwned p s (c ∷ cs) = (Lives p s c.owner × Ends s c.owner) × AllOwned p s cs

-- no cell goes
abbrev pub NoneGoes : List Task → Type 0
NoneGoes [] = Unit {0}
NoneGoes (Run fr ∷ ts) = NoneGoes ts
NoneGoes (Trapped ∷ ts) = NoneGoes ts
NoneGoes (Destroy ∷ ts) = ⊥
NoneGoes (Closing ∷ ts) = ⊥
NoneGoes (Unwind code ∷ ts) = NoneGoes ts
NoneGoes (Dispatched d ∷ ts) = NoneGoes ts

pub record Owned (p : Image) (s : State) : Type 0 where
  pub each : AllOwned p s s.cells
  -- no place owns two cells, and no two have one name
  pub alone : NoDuplicates s.cells
  pub settled : NoneGoes s.tasks
