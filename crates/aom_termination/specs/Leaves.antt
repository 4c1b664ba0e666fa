-- That the code of each leave arrives.
use Rattle.std.specs.Prelude.{ℕ, zero, suc, ℤ, ◌≡◌, ◌≤◌, ◌+◌, List, None}
use Rattle.aom_image.specs.Image.{Image}
use Rattle.aom_link_conditions.specs.Linked.{IsLinked}
use Rattle.aom_typing_rules.specs.Typing.{Typing, IsTyped}
use Rattle.aom_safety.specs.Laws.{IsWired}
use Rattle.aom_safety.specs.Leaves.{IsLeaving, Unwinds, Arrives}
use Rattle.aom_semantics.specs.Places.{named}
use Rattle.aom_semantics.specs.State.{Task, Item, State, Choice, Goes}
use Rattle.aom_semantics.specs.Moves.{step}
use Rattle.aom_safety.specs.WellTyped.{WellTyped}
use Rattle.aom_termination.specs.Ranks.{rank}

-- so many moves lead from one state to another, where what is left free is chosen so
pub data Follows (p : Image) (choose : State → Choice) : ℕ → State → State → Type 0 where
  stays : {s : State} → Follows p choose zero s s
  goes : {n : ℕ} {s u v : State} → step p (choose s) s ≡ Goes u → Follows p choose n u v → Follows p choose (suc n) s v

-- after so many moves a leave, which began at a state, has dealt with all its entries, and with one more its code arrives
pub record Comes (p : Image) (choose : State → Choice) (code : ℤ) (below : List Task) (entries items : List Item) (from s : State) : Type 0 where
  pub count : ℕ
  pub last : State
  pub after : State
  pub follows : Follows p choose count s last
  pub course : Unwinds p code below from entries last
  pub move : step p (choose last) last ≡ Goes after
  pub arrives : Arrives p code below items last after
  pub few : suc count + rank p after ≤ rank p s

-- the code of each leave arrives, whatever is left free
abbrev pub LeavesCome : Type 0
LeavesCome =
    (p : Image) (t : Typing) → IsWired p → IsLinked p → IsTyped p t → (choose : State → Choice) → ((s : State) → named s.cells (choose s).name ≡ None) →
    (s : State) → WellTyped p t s → (code : ℤ) (below : List Task) (entries items : List Item) → IsLeaving p code below entries items s → Comes p choose code below entries items s s
