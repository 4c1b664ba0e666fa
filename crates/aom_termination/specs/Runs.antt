-- What is promised of every run of an image: that it never goes wrong, and that what begins in it ends.
use Rattle.std.specs.Prelude.{ℕ, ℤ, ◌≡◌, ◌≤◌, ◌+◌, length, List, [], ◌∷◌, Some, None}
use Rattle.aom_image.specs.Image.{Image}
use Rattle.aom_image.specs.Views.{instr_at}
use Rattle.aom_image.specs.WellFormed.{WellFormed}
use Rattle.aom_instructions.specs.declared.instr.Instr.{Instr}
use Rattle.aom_link_conditions.specs.Linked.{IsLinked}
use Rattle.aom_typing_rules.specs.Typing.{Typing, IsTyped}
use Rattle.aom_safety.specs.Laws.{IsSound}
use Rattle.aom_safety.specs.Leaves.{Begins, EachLeaveArrives, IsLeaving, LeavesWith}
use Rattle.aom_safety.specs.Loops.{RoundsLeft}
use Rattle.aom_semantics.specs.Moves.{step}
use Rattle.aom_semantics.specs.Places.{named}
use Rattle.aom_safety.specs.Quiet.{OnlyQuietRun}
use Rattle.aom_semantics.specs.State.{Choice, Frame, Goes, Item, Run, State, Task}
use Rattle.aom_safety.specs.Traps.{EachStandsAtTraps, EachTrapHolds}
use Rattle.aom_semantics.specs.World.{boot_state, Reaches, Environment}
use Rattle.aom_transcript.specs.declared.line.Line.{Line}
use Rattle.aom_termination.specs.RankLaws.{Moves}
use Rattle.aom_termination.specs.Leaves.{Comes, Follows}
use Rattle.aom_termination.specs.Ranks.{rank}

-- where what is left free is chosen so, some moves lead to a state with nothing at hand, and no more than the rank tells
pub record ComesToRest (p : Image) (choose : State → Choice) (s : State) : Type 0 where
  pub count : ℕ
  pub last : State
  pub follows : Follows p choose count s last
  pub idle : last.tasks ≡ []
  pub few : count + rank p last ≤ rank p s

-- a new cell gets a name that no cell has
abbrev pub IsFree : (State → Choice) → Type 0
IsFree choose = (s : State) → named s.cells (choose s).name ≡ None

-- of each run of the image, whatever is left free
pub record RunsWell (p : Image) (outside : Environment) : Type 0 where
  -- it is never stuck, and each cell has its owner
  pub sound : IsSound p outside
  -- each dispatch ends: from each state on nothing is at hand some time
  pub ends : (lines : List Line) (s : State) → Reaches p outside (boot_state p) lines s → (choose : State → Choice) → IsFree choose → ComesToRest p choose s
  -- and no way through it is longer than the rank tells
  pub falls : (lines : List Line) (s : State) → Reaches p outside (boot_state p) lines s → (n : ℕ) (u : State) → Moves p n s u → n + rank p u ≤ rank p s
  -- a leave begins over the innermost trap, with the code that its instruction says
  pub begins :
      (lines : List Line) (s : State) → Reaches p outside (boot_state p) lines s → (c : Choice) (u : State) → named s.cells c.name ≡ None →
      (fr : Frame) (ts : List Task) (i : Instr) (code : ℤ) → s.tasks ≡ Run fr ∷ ts → instr_at p fr.method fr.place ≡ Some i → LeavesWith c fr i code → step p c s ≡ Goes u → Begins p code fr (length ts) i s u
  -- it deals with its entries in their order, each once, before that code arrives
  pub arrives : EachLeaveArrives p outside
  -- and the code does arrive
  pub comes :
      (lines : List Line) (s : State) → Reaches p outside (boot_state p) lines s → (choose : State → Choice) → IsFree choose →
      (code : ℤ) (below : List Task) (entries items : List Item) → IsLeaving p code below entries items s → Comes p choose code below entries items s s
  -- a method under a trap waits at the instruction that set it
  pub stands : EachStandsAtTraps p outside
  -- as it was, until the trap is over, and what lies below the mark stays as it is
  pub holds : EachTrapHolds p outside
  -- in a loop's body a round is left, and no more than the loop has
  pub rounds : (lines : List Line) (s : State) → Reaches p outside (boot_state p) lines s → RoundsLeft p s.tasks
  -- while a cell goes or a leave unwinds, quiet methods alone run
  pub only_quiet : (lines : List Line) (s : State) → Reaches p outside (boot_state p) lines s → OnlyQuietRun p s.tasks

-- each linked image that has a typing runs well, whatever is outside
pub record TypedRunsWell : Type 0 where
  pub each : (p : Image) (t : Typing) (outside : Environment) → WellFormed p → IsLinked p → IsTyped p t → RunsWell p outside
