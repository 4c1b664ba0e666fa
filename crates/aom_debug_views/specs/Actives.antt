-- What a debugger tells of the active objects of a state.
use Rattle.std.specs.Prelude.{◌≡◌, ℕ, Bool, true, false, List, Option, Some, None, IsSome, All, AllPairs, length, map, take}
use Rattle.std.specs.List.{Contains, flat_map}
use Rattle.aom_active_objects.specs.Agrees.{GoesBefore}
use Rattle.aom_image.specs.Image.{Image}
use Rattle.aom_semantics.specs.Places.{Aborted, Active as Waiting, Cancelling, Cell, Idle, Issued, Object, Phase, Request, named, requested, service_of}
use Rattle.aom_semantics.specs.Servers.{is_server}
use Rattle.aom_semantics.specs.State.{State}
use Rattle.aom_machine_state.specs.Stands.{MachineModel, Refines}
use Rattle.aom_transcript.specs.Sinks.{after}
use Rattle.aom_debug_symbols.specs.NameLists.{NameLists}
use Rattle.aom_debug_protocol.specs.declared.fault.DebugFault.{DebugFault}
use Rattle.aom_debug_protocol.specs.declared.fault.DebugFault.TheVariants.{WriteFault}
use Rattle.aom_debug_protocol.specs.declared.answer.Answer.{Answer}
use Rattle.aom_debug_protocol.specs.declared.answer.Answer.TheVariants.{Active, Server}
use Rattle.aom_debug_protocol.specs.declared.answer.Phase.{Phase as Shown_phase}
use Rattle.aom_debug_protocol.specs.declared.answer.Phase.TheVariants as shown
use Rattle.aom_debug_views.specs.CellViews.{class_of}
use Rattle.aom_debug_views.specs.Seeking.{Placed, path_at, placed, placed_by}

-- one whose cancel is at hand is active
abbrev pub shown_phase : Phase → Shown_phase
shown_phase Idle = shown.Idle
shown_phase Issued = shown.Issued
shown_phase Waiting = shown.Active
shown_phase Cancelling = shown.Active
shown_phase Aborted = shown.Active

-- of a server how many connects, messages and closes wait in its queue
abbrev pub enlisted_as : (server : Bool) → (class : ℕ) → Request → (queued : ℕ) → Answer
enlisted_as true class r queued = Server class r.priority queued
enlisted_as false class r queued = Active class r.priority (shown_phase r.phase) r.status

abbrev pub active_of : Bool → Option ℕ → Option Request → ℕ → Option Answer
active_of server (Some class) (Some r) queued = Some (enlisted_as server class r queued)
active_of server _ _ queued = None

abbrev pub serves : Image → Option Object → Bool
serves p None = false
serves p (Some o) = is_server p o.thing

-- the object of that name, if it is enlisted
abbrev pub active_answer : Image → List Cell → ℕ → Option Answer
active_answer p cs n = active_of (serves p (named cs n)) (class_of (named cs n)) (requested cs n) (length (service_of cs n).queue)

abbrev pub active_at : Image → List Cell → Option ℕ → Option Answer
active_at p cs None = None
active_at p cs (Some n) = active_answer p cs n

-- and its path, where there is a text
abbrev pub active_placed : NameLists → Image → State → Option ℕ → List Placed
active_placed ns p s o = placed (active_at p s.cells o) (path_at ns s o)

abbrev pub actives_placed : NameLists → Image → State → List ℕ → List Placed
actives_placed ns p s names = flat_map (λ n. active_placed ns p s (Some n)) names

-- these are the names of all objects that are enlisted, and each goes before those behind it in the choice, so none stands twice
pub record InOrderOfChoice (cs : List Cell) (names : List ℕ) : Type 0 where
  pub enlisted : All (λ n. IsSome (requested cs n)) names
  pub all : (n : ℕ) → IsSome (requested cs n) → Contains names n
  pub order : AllPairs (λ n m. GoesBefore (requested cs n) (requested cs m)) names

-- the objects that the machine has on its list, in the order of that
abbrev pub on_list : MachineModel → List ℕ
on_list m = map (λ e. e.id) m.parts.active.priority_list.entries

-- these are in the order of choice of each state that a machine stands for, and their lines are out
pub record ReportsActives (ns : NameLists) (m : MachineModel) (before now : Option (List ℕ)) : Type 0 where
  pub order : (s : State) → Refines m s → InOrderOfChoice s.cells (on_list m)
  pub out : (s : State) → Refines m s → now ≡ after before (placed_by ns (actives_placed ns m.image s (on_list m)))

-- or a beginning of them, since the sink failed, and the fault says so
pub record ReportsActivesPart (ns : NameLists) (m : MachineModel) (fault : DebugFault) (failed : Bool) (before now : Option (List ℕ)) : Type 0 where
  pub reported : fault ≡ WriteFault
  pub fails : failed ≡ true
  pub order : (s : State) → Refines m s → InOrderOfChoice s.cells (on_list m)
  pub out : (s : State) → Refines m s → (sent : ℕ) × (now ≡ after before (take sent (placed_by ns (actives_placed ns m.image s (on_list m)))))
