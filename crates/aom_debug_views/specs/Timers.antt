-- What a debugger tells of the timers that run in a state.
use Rattle.std.specs.Prelude.{◌≡◌, ℕ, Bool, true, List, Option, Some, None, IsSome, All, AllPairs, map, take}
use Rattle.std.specs.List.{Contains, flat_map}
use Rattle.aom_active_objects.specs.Agrees.{IsSooner, due_in}
use Rattle.aom_semantics.specs.Places.{Cell, named, requested}
use Rattle.aom_semantics.specs.State.{State}
use Rattle.aom_machine_state.specs.Stands.{MachineModel, Refines}
use Rattle.aom_transcript.specs.Sinks.{after}
use Rattle.aom_debug_symbols.specs.NameLists.{NameLists}
use Rattle.aom_debug_protocol.specs.declared.fault.DebugFault.{DebugFault}
use Rattle.aom_debug_protocol.specs.declared.fault.DebugFault.TheVariants.{WriteFault}
use Rattle.aom_debug_protocol.specs.declared.answer.Answer.{Answer}
use Rattle.aom_debug_protocol.specs.declared.answer.Answer.TheVariants.{Timer}
use Rattle.aom_debug_views.specs.CellViews.{class_of}
use Rattle.aom_debug_views.specs.Seeking.{Placed, path_at, placed, placed_by}

abbrev pub timer_of : Option ℕ → Option ℕ → Option Answer
timer_of (Some class) (Some due) = Some (Timer class due)
timer_of _ _ = None

-- the timer of the object of that name, if one runs
abbrev pub timer_answer : List Cell → ℕ → Option Answer
timer_answer cs n = timer_of (class_of (named cs n)) (due_in (requested cs n))

abbrev pub timer_at : List Cell → Option ℕ → Option Answer
timer_at cs None = None
timer_at cs (Some n) = timer_answer cs n

-- and the path of its object, where there is a text
abbrev pub timer_placed : NameLists → State → Option ℕ → List Placed
timer_placed ns s o = placed (timer_at s.cells o) (path_at ns s o)

abbrev pub timers_placed : NameLists → State → List ℕ → List Placed
timers_placed ns s names = flat_map (λ n. timer_placed ns s (Some n)) names

-- these are the names of all objects whose timer runs, and each is sooner than those behind it, so none stands twice
pub record InOrderOfTime (cs : List Cell) (names : List ℕ) : Type 0 where
  pub runs : All (λ n. IsSome (due_in (requested cs n))) names
  pub all : (n : ℕ) → IsSome (due_in (requested cs n)) → Contains names n
  pub order : AllPairs (λ n m. IsSooner (requested cs n) (requested cs m)) names

-- the objects whose timers the machine has, in its order
abbrev pub on_timers : MachineModel → List ℕ
on_timers m = map (λ t. t.id) m.parts.active.pending.timers

-- these are in the order of time of each state that a machine stands for, and their lines are out
pub record ReportsTimers (ns : NameLists) (m : MachineModel) (before now : Option (List ℕ)) : Type 0 where
  pub order : (s : State) → Refines m s → InOrderOfTime s.cells (on_timers m)
  pub out : (s : State) → Refines m s → now ≡ after before (placed_by ns (timers_placed ns s (on_timers m)))

-- or a beginning of them, since the sink failed, and the fault says so
pub record ReportsTimersPart (ns : NameLists) (m : MachineModel) (fault : DebugFault) (failed : Bool) (before now : Option (List ℕ)) : Type 0 where
  pub reported : fault ≡ WriteFault
  pub fails : failed ≡ true
  pub order : (s : State) → Refines m s → InOrderOfTime s.cells (on_timers m)
  pub out : (s : State) → Refines m s → (sent : ℕ) × (now ≡ after before (take sent (placed_by ns (timers_placed ns s (on_timers m)))))
