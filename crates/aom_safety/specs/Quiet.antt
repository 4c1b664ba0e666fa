-- While a cell goes or a leave unwinds, quiet methods alone run, and no trap is set.
use Rattle.std.specs.Prelude.{Bool, List, [], false, true, ℤ, ◌∷◌, ◌≡◌}
use Rattle.aom_image.specs.Image.{Image}
use Rattle.aom_image.specs.Views.{is_quiet}
use Rattle.aom_typing_rules.specs.Typing.{Typing, IsTyped}
use Rattle.aom_semantics.specs.State.{Frame, Task, Run, Trapped, Destroy, Unwind, Dispatched, Item, A_mark, State, Choice, Goes, Closing}
use Rattle.aom_semantics.specs.Moves.{step}
use Rattle.aom_safety.specs.Tasks.{TaskLaw, Holds}
use Rattle.aom_safety.specs.WellTyped.{WellTyped}
use Rattle.aom_semantics.specs.Owned.{Owned}
use Rattle.aom_safety.specs.Registers.{AllInRange}
use Rattle.aom_semantics.specs.World.{Observed, Environment, boot_state, turn}
use Rattle.aom_safety.specs.Laws.{IsWired}

-- a cell goes, or a leave unwinds
abbrev pub is_clearing : List Task → Bool
is_clearing [] = false
is_clearing (Run fr ∷ ts) = is_clearing ts
is_clearing (Trapped ∷ ts) = is_clearing ts
is_clearing (Destroy ∷ ts) = true
is_clearing (Closing ∷ ts) = true
is_clearing (Unwind code ∷ ts) = true
is_clearing (Dispatched d ∷ ts) = is_clearing ts

-- over that a method is quiet
abbrev pub IsQuietOver : Image → Frame → List Task → Type 0
IsQuietOver p fr ts = is_clearing ts ≡ true → is_quiet p fr.method ≡ true

-- and no trap stands over it, nor another leave
abbrev pub only_quiet : Image → TaskLaw
only_quiet p = record { Runs = IsQuietOver p; Waits = IsQuietOver p; Stands = λ ts. is_clearing ts ≡ false; Unwinds = λ code ts. is_clearing ts ≡ false }

abbrev pub OnlyQuietRun : Image → List Task → Type 0
OnlyQuietRun p ts = Holds (only_quiet p) ts

-- this holds at the boot, and each move of a well-typed state keeps it
pub record QuietPreserved : Type 0 where
  pub boot : (p : Image) → OnlyQuietRun p (boot_state p).tasks
  pub moves : (p : Image) (t : Typing) → IsWired p → IsTyped p t → (c : Choice) (s u : State) → WellTyped p t s → OnlyQuietRun p s.tasks → step p c s ≡ Goes u → OnlyQuietRun p u.tasks
  pub turns : (p : Image) → IsWired p → (outside : Environment) (observed : Observed) (s u : State) → OnlyQuietRun p s.tasks → turn p outside observed s ≡ Goes u → OnlyQuietRun p u.tasks

-- where a leave has nothing more to unwind, each cell has exactly one living owner
abbrev pub CaughtOwned : Type 0
CaughtOwned =
    (p : Image) (t : Typing) → IsWired p → (s : State) → WellTyped p t s → OnlyQuietRun p s.tasks → AllInRange s.cells →
    (code : ℤ) (tasks : List Task) (items : List Item) → s.tasks ≡ Unwind code ∷ tasks → s.items ≡ A_mark ∷ items → Owned p s
