-- Traps: until a trap is over, the method that set it waits as it was, and what lies below its mark stays as it is.
use Rattle.std.specs.Prelude.{ℕ, suc, ℤ, pos, ◌≡◌, ◌⊎◌, List, [], ◌∷◌, ◌++◌, Some, None}
use Rattle.aom_image.specs.Image.{Image}
use Rattle.aom_image.specs.Views.{action_at}
use Rattle.aom_instructions.specs.declared.action.Action.TheVariants.{Call}
use Rattle.aom_instructions.specs.declared.action.CallMode.TheVariants.{Trapped as Under_trap}
use Rattle.aom_instructions.specs.declared.instr.Target.{Target}
use Rattle.aom_typing_rules.specs.Typing.{Typing, IsTyped}
use Rattle.aom_semantics.specs.Places.{named}
use Rattle.aom_semantics.specs.State.{Frame, Dispatch, Task, Run, Trapped, Destroy, Unwind, Dispatched, Item, An_object, An_operation, A_mark, State, Choice, Goes, word, next, Closing}
use Rattle.aom_semantics.specs.Moves.{step}
use Rattle.aom_safety.specs.Tasks.{TaskLaw, Holds}
use Rattle.aom_safety.specs.WellTyped.{WellTyped}
use Rattle.aom_semantics.specs.World.{boot_state, Reaches, Environment}
use Rattle.aom_safety.specs.Laws.{IsWired}
use Rattle.aom_transcript.specs.declared.line.Line.{Line}

abbrev pub traps : List Task → ℕ
traps [] = 0
traps (Run fr ∷ ts) = traps ts
traps (Trapped ∷ ts) = suc (traps ts)
traps (Destroy ∷ ts) = traps ts
traps (Closing ∷ ts) = traps ts
traps (Unwind code ∷ ts) = traps ts
traps (Dispatched d ∷ ts) = traps ts

abbrev pub marks : List Item → ℕ
marks [] = 0
marks (An_object ∷ items) = marks items
marks (An_operation m w ∷ items) = marks items
marks (A_mark ∷ items) = suc (marks items)

-- a trap is at hand over these tasks, and below its mark lie these items: over both are as many traps as marks
pub record IsTrapping (below : List Task) (items : List Item) (s : State) : Type 0 where
  pub over : List Task
  pub tasks : s.tasks ≡ over ++ (Trapped ∷ below)
  pub entries : List Item
  pub stack : s.items ≡ entries ++ (A_mark ∷ items)
  pub matched : marks entries ≡ traps over

-- the method that waited goes on after its trap, with other words at most, or the dispatch does
abbrev pub GoesOnAfter : List Task → List Task → Type 0
GoesOnAfter [] tasks = ⊥
GoesOnAfter (Run before ∷ ts) tasks = (after : Frame) × (tasks ≡ Run after ∷ ts) × (record after { words = before.words } ≡ next before)
GoesOnAfter (Trapped ∷ ts) tasks = ⊥
GoesOnAfter (Destroy ∷ ts) tasks = ⊥
GoesOnAfter (Closing ∷ ts) tasks = ⊥
GoesOnAfter (Unwind code ∷ ts) tasks = ⊥
GoesOnAfter (Dispatched d ∷ ts) tasks = (e : Dispatch) × (tasks ≡ Dispatched e ∷ ts)

-- the register of the code has the word 0
abbrev pub ReportsZero : Image → List Task → List Task → Type 0
ReportsZero p (Run before ∷ ts) (Run after ∷ us) = (target : Target) (m first x : ℕ) → action_at p before.method before.place ≡ Some (Call Under_trap target m first x) → word after (suc x) ≡ Some (pos 0)
ReportsZero p _ _ = Unit {0}

-- the method right over the trap has returned, or a leave right over it has arrived
abbrev pub ComesOff : Image → List Task → State → State → Type 0
ComesOff p below s u = ((fr : Frame) × (s.tasks ≡ Run fr ∷ Trapped ∷ below) × ReportsZero p below u.tasks) ⊎ ((code : ℤ) × (s.tasks ≡ Unwind code ∷ Trapped ∷ below))

-- with that move the trap is over, and the items are those that lay below its mark
pub record IsPast (p : Image) (below : List Task) (items : List Item) (s u : State) : Type 0 where
  pub tasks : GoesOnAfter below u.tasks
  pub stack : u.items ≡ items
  pub off : ComesOff p below s u

-- it came to that on the way
pub record WasPast (p : Image) (outside : Environment) (below : List Task) (items : List Item) (from s : State) : Type 0 where
  pub earlier : List Line
  pub last : State
  pub until : Reaches p outside from earlier last
  pub trapping : IsTrapping below items last
  pub choice : Choice
  pub after : State
  pub move : step p choice last ≡ Goes after
  pub past : IsPast p below items last after
  pub lines : List Line
  pub reaches : Reaches p outside after lines s

-- a method that waits under a trap stands at the instruction that set it
abbrev pub IsAtTrap : Image → List Task → Type 0
IsAtTrap p [] = ⊥
IsAtTrap p (Run fr ∷ ts) = (target : Target) × (m : ℕ) × (first : ℕ) × (x : ℕ) × (action_at p fr.method fr.place ≡ Some (Call Under_trap target m first x))
IsAtTrap p (Trapped ∷ ts) = ⊥
IsAtTrap p (Destroy ∷ ts) = ⊥
IsAtTrap p (Closing ∷ ts) = ⊥
IsAtTrap p (Unwind code ∷ ts) = ⊥
IsAtTrap p (Dispatched d ∷ ts) = Unit {0}

-- so it is for each trap at hand
abbrev pub at_traps : Image → TaskLaw
at_traps p = record { Runs = λ fr ts. Unit {0}; Waits = λ fr ts. Unit {0}; Stands = λ ts. IsAtTrap p ts; Unwinds = λ code ts. Unit {0} }

abbrev pub AllAtTraps : Image → List Task → Type 0
AllAtTraps p ts = Holds (at_traps p) ts

-- in each state of a run
abbrev pub EachStandsAtTraps : Image → Environment → Type 0
EachStandsAtTraps p outside = (lines : List Line) (s : State) → Reaches p outside (boot_state p) lines s → AllAtTraps p s.tasks

-- from a state of a run on a trap is at hand, or it was over at some move
abbrev pub EachTrapHolds : Image → Environment → Type 0
EachTrapHolds p outside =
    (before : List Line) (s : State) → Reaches p outside (boot_state p) before s →
    (below : List Task) (items : List Item) → IsTrapping below items s → (lines : List Line) (u : State) → Reaches p outside s lines u → IsTrapping below items u ⊎ WasPast p outside below items s u

pub record TrapsKeep : Type 0 where
  pub stand : (p : Image) (outside : Environment) → EachStandsAtTraps p outside
  -- a method sets a trap: it waits under it, and the items are those below its mark
  pub sets :
      (p : Image) (t : Typing) (c : Choice) (s u : State) (fr : Frame) (ts : List Task) (target : Target) (m first x : ℕ) →
      s.tasks ≡ Run fr ∷ ts → action_at p fr.method fr.place ≡ Some (Call Under_trap target m first x) → step p c s ≡ Goes u → IsTrapping (Run fr ∷ ts) s.items u
  -- of each move
  pub moves :
      (p : Image) (t : Typing) → IsWired p → IsTyped p t → (c : Choice) (s u : State) → WellTyped p t s → named s.cells c.name ≡ None →
      (below : List Task) (items : List Item) → IsTrapping below items s → step p c s ≡ Goes u → IsTrapping below items u ⊎ IsPast p below items s u
  -- and of each run from there
  pub runs : (p : Image) (t : Typing) (outside : Environment) → IsWired p → IsTyped p t → EachTrapHolds p outside
