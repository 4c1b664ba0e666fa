-- Loops: the rounds that are left while a method stands in a loop's body.
use Rattle.std.specs.Prelude.{ℕ, suc, ◌≡◌, ◌<◌, ◌≤◌, List}
use Rattle.aom_image.specs.Image.{Image}
use Rattle.aom_image.specs.WellFormed.{WellFormed}
use Rattle.aom_link_conditions.specs.Bodies.{Body, IsIn, IsLooped}
use Rattle.aom_link_conditions.specs.Linked.{IsLinked}
use Rattle.aom_semantics.specs.State.{Frame, Task, State, Choice, Goes, counter}
use Rattle.aom_semantics.specs.Moves.{step}
use Rattle.aom_safety.specs.Tasks.{TaskLaw, Holds}
use Rattle.aom_semantics.specs.World.{boot_state, Observed, Environment, turn}

-- in each body that has that place, a round of its loop is left, and no more than the loop has
abbrev pub RoundsAt : Image → Frame → ℕ → Type 0
RoundsAt p fr place = (from to d n : ℕ) → Body p fr.method from to d n → IsIn from to place → (0 < counter fr d) × (counter fr d ≤ n)

-- a method has rounds left where it stands, or, while it waits, where it will go on
abbrev pub rounds_left : Image → TaskLaw
rounds_left p = record { Runs = λ fr ts. RoundsAt p fr fr.place; Waits = λ fr ts. RoundsAt p fr (suc fr.place); Stands = λ ts. Unit {0}; Unwinds = λ code ts. Unit {0} }

abbrev pub RoundsLeft : Image → List Task → Type 0
RoundsLeft p ts = Holds (rounds_left p) ts

-- this holds at the boot, and each move keeps it, where the loops lie so; in a linked image they do
pub record LoopsKeep : Type 0 where
  pub linked : (p : Image) → WellFormed p → IsLinked p → IsLooped p
  pub boot : (p : Image) → RoundsLeft p (boot_state p).tasks
  pub moves : (p : Image) → IsLooped p → (c : Choice) (s u : State) → RoundsLeft p s.tasks → step p c s ≡ Goes u → RoundsLeft p u.tasks
  pub turns : (p : Image) → IsLooped p → (outside : Environment) (observed : Observed) (s u : State) → RoundsLeft p s.tasks → turn p outside observed s ≡ Goes u → RoundsLeft p u.tasks
