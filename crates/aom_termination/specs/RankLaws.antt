-- The laws of ranks.
use Rattle.std.specs.Prelude.{ℕ, zero, suc, ◌≡◌, ◌<◌, ◌≤◌, ◌+◌, true, List, None, Some}
use Rattle.aom_image.specs.Image.{Image}
use Rattle.aom_roles.specs.Things.{is_object}
use Rattle.aom_link_conditions.specs.Linked.{IsLinked}
use Rattle.aom_typing_rules.specs.Typing.{Typing, IsTyped}
use Rattle.aom_safety.specs.Laws.{IsWired}
use Rattle.aom_semantics.specs.Places.{Cell, Going, Object, count_cells, held, named}
use Rattle.aom_semantics.specs.State.{State, Choice, Goes}
use Rattle.aom_semantics.specs.Moves.{step}
use Rattle.aom_safety.specs.WellTyped.{WellTyped}
use Rattle.aom_semantics.specs.World.{IsBusy}
use Rattle.aom_termination.specs.Ranks.{rank, standing, destructions}

-- of an image that is linked and has a typing, a move of a well-typed state at which something is at hand leads to a lower rank
abbrev pub MovesLowerRanks : Type 0
MovesLowerRanks = (p : Image) (t : Typing) → IsLinked p → IsTyped p t → (c : Choice) (s u : State) → WellTyped p t s → IsBusy s → step p c s ≡ Goes u → rank p u < rank p s

-- what goes is no message
abbrev pub GoesNoMessage : List Cell → Type 0
GoesNoMessage cs = (k : ℕ) (o : Object) → held cs (Going k) ≡ Some o → is_object o.thing ≡ true

-- so many moves lead from one state to another, at each of which something is at hand
pub data Moves (p : Image) : ℕ → State → State → Type 0 where
  no_move : {s : State} → Moves p zero s s
  one_move : {n : ℕ} {s u v : State} (c : Choice) → IsBusy s → named s.cells c.name ≡ None → step p c s ≡ Goes u → Moves p n u v → Moves p (suc n) s v

-- no more moves than the rank tells lead on from a well-typed state, before nothing is at hand
abbrev pub RanksBoundMoves : Type 0
RanksBoundMoves = (p : Image) (t : Typing) → IsWired p → IsLinked p → IsTyped p t → (n : ℕ) (s u : State) → WellTyped p t s → Moves p n s u → n + rank p u ≤ rank p s

-- in a well-typed state in which objects alone go each object stands, or is the one that a destruction at hand is for
abbrev pub CellsStandOrGo : Type 0
CellsStandOrGo = (p : Image) (t : Typing) (s : State) → WellTyped p t s → GoesNoMessage s.cells → standing s.cells + destructions s.tasks ≡ count_cells s.cells
