-- The laws of names, and that the text of a run is determined.
use Rattle.std.specs.Prelude.{ℕ, true, ◌≡◌, ◌⊎◌, List, ◌++◌, None}
use Rattle.aom_image.specs.Image.{Image}
use Rattle.aom_image.specs.WellFormed.{WellFormed}
use Rattle.aom_typing_rules.specs.Typing.{Typing, IsTyped}
use Rattle.aom_safety.specs.Kept.{StateInvariant}
use Rattle.aom_semantics.specs.Places.{named}
use Rattle.aom_semantics.specs.State.{State, Choice, Goes}
use Rattle.aom_semantics.specs.Moves.{step, written, IsOpen}
use Rattle.aom_safety.specs.WellTyped.{WellTyped}
use Rattle.aom_semantics.specs.World.{boot_state, Observed, nothing_observed, Reaches, Run_of, Environment, turn, turning, written_turn, ObservesWell, IsBetween}
use Rattle.aom_safety.specs.Laws.{IsWired}
use Rattle.aom_transcript.specs.declared.line.Line.{Line}
use Rattle.aom_transcript.specs.declared.line.Ending.{Ending}
use Rattle.aom_determinism.specs.Observing.{HasNoNative, Oracle, Follows, is_observed, is_polling}
use Rattle.aom_determinism.specs.There.{AllThere}
use Rattle.aom_determinism.specs.Names.{IsOneToOne, renamed, renamed_choice, renamed_observed, renamed_outcome, AreAlike, AlikeOutcomes}

-- of any state, well typed or not: under other names the same moves are open to it, and its turns may hear the same; it moves to the same state under these names, or is stuck alike, and writes the same; and so does a turn
pub record NamesMeanNothing : Type 0 where
  pub opens : (p : Image) (refused : List ℕ) (names : ℕ → ℕ) → IsOneToOne names → (c : Choice) (s : State) → IsOpen p refused c s → IsOpen p refused (renamed_choice names c) (renamed names s)
  pub moves : (p : Image) (names : ℕ → ℕ) → IsOneToOne names → (c : Choice) (s : State) → step p (renamed_choice names c) (renamed names s) ≡ renamed_outcome names (step p c s)
  pub writes : (p : Image) (names : ℕ → ℕ) → IsOneToOne names → (s : State) → written p (renamed names s) ≡ written p s
  -- whatever a native completes, which names its cell by the place in the list of cells
  pub turns : (p : Image) (outside : Environment) (observed : Observed) (names : ℕ → ℕ) → IsOneToOne names → (s : State) → turn p outside (renamed_observed names observed) (renamed names s) ≡ renamed_outcome names (turn p outside observed s)
  pub observes : (p : Image) (outside : Environment) (observed : Observed) (names : ℕ → ℕ) → IsOneToOne names → (s : State) → ObservesWell p outside observed s → ObservesWell p outside (renamed_observed names observed) (renamed names s)
  pub writes_turn : (p : Image) (outside : Environment) (names : ℕ → ℕ) → IsOneToOne names → (s : State) → written_turn p outside (renamed names s) ≡ written_turn p outside s

-- two states that are the same but for names, of which one is well typed, keeps what clients have, and has what they say, move alike, each with any free name for a new cell, and write the same, where both hear the same of a native that answers
abbrev pub MovesStayAlike : Type 0
MovesStayAlike =
    (p : Image) (t : Typing) (refused : List ℕ) (c d : Choice) (s u : State) →
    WellTyped p t u → StateInvariant p u → AllThere u → AreAlike s u → IsOpen p refused c s → IsOpen p refused d u → (is_observed p s.tasks ≡ true → c.answer ≡ d.answer) →
    AlikeOutcomes (step p c s) (step p d u) × (written p s ≡ written p u)

-- and two such states turn alike, each with any free name for what the turn makes, and write the same, where a native that is polled completes the same
abbrev pub TurnsStayAlike : Type 0
TurnsStayAlike =
    (p : Image) (t : Typing) (outside : Environment) (observed other : Observed) (s u : State) →
    WellTyped p t u → StateInvariant p u → AllThere u → AreAlike s u → named s.cells observed.name ≡ None → named u.cells other.name ≡ None → (is_polling (turning outside nothing_observed s) ≡ true → observed.completion ≡ other.completion) →
    AlikeOutcomes (turn p outside observed s) (turn p outside other u) × (written_turn p outside s ≡ written_turn p outside u)

-- what clients and the dispatch at hand say is of cells that are there in each state of a run
pub record AllStaysThere : Type 0 where
  pub boot : (p : Image) → AllThere (boot_state p)
  pub moves : (p : Image) (t : Typing) → IsWired p → IsTyped p t → (c : Choice) (s u : State) → WellTyped p t s → named s.cells c.name ≡ None → StateInvariant p s → AllThere s → step p c s ≡ Goes u → AllThere u
  pub turns :
      (p : Image) (t : Typing) (outside : Environment) → IsWired p → IsTyped p t → (observed : Observed) (s u : State) →
      WellTyped p t s → IsBetween s → ObservesWell p outside observed s → StateInvariant p s → AllThere s → turn p outside observed s ≡ Goes u → AllThere u

-- lines that may go on to others
abbrev pub Begins : List Line → List Line → Type 0
Begins lines whole = (more : List Line) × (whole ≡ lines ++ more)

-- any two runs of an image with the same outside that hear the same of natives
pub record IsDetermined (p : Image) (outside : Environment) : Type 0 where
  -- as far as both have come they have written the same
  pub agree :
      (oracle : Oracle) (lines others : List Line) (s u : State) (one : Reaches p outside (boot_state p) lines s) (other : Reaches p outside (boot_state p) others u) →
      Follows oracle one → Follows oracle other → Begins lines others ⊎ Begins others lines
  -- one that has ended has written all that the other has
  pub whole :
      (oracle : Oracle) (lines others : List Line) (s u : State) (ending : Ending) (one : Run_of p outside lines s ending) (other : Reaches p outside (boot_state p) others u) →
      Follows oracle one.reaches → Follows oracle other → Begins others lines
  -- and two that have ended have written the same and ended alike, in states that are the same but for names
  pub ended :
      (oracle : Oracle) (lines others : List Line) (s u : State) (ending last : Ending) (one : Run_of p outside lines s ending) (other : Run_of p outside others u last) →
      Follows oracle one.reaches → Follows oracle other.reaches → (lines ≡ others) × (ending ≡ last) × AreAlike s u

-- each linked image that has a typing is determined, whatever is outside
abbrev pub TextIsDetermined : Type 0
TextIsDetermined = (p : Image) (t : Typing) (outside : Environment) → IsWired p → IsTyped p t → IsDetermined p outside

-- what a run heard of natives is an oracle that it follows
abbrev pub EachRunFollows : Type 0
EachRunFollows = (p : Image) (outside : Environment) (from : State) (lines : List Line) (s : State) (reached : Reaches p outside from lines s) → (oracle : Oracle) × Follows oracle reached

-- of any run of an image with no native that serves a class of it: what is heard of natives changes nothing
pub record NothingIsObserved : Type 0 where
  -- such is an image that names none
  pub unnamed : (p : Image) → WellFormed p → p.header.natives ≡ 0 → HasNoNative p
  -- where there is no native it follows whatever an oracle says
  pub without :
      (p : Image) (outside : Environment) → HasNoNative p → outside.natives ≡ 0 →
      (oracle : Oracle) (from : State) (lines : List Line) (s : State) (reached : Reaches p outside from lines s) → Follows oracle reached
  -- where there are any, they complete nothing
  pub idle :
      (p : Image) (outside : Environment) → HasNoNative p → (oracle : Oracle) → ((n : ℕ) → oracle.completes n ≡ None) →
      (from : State) (lines : List Line) (s : State) (reached : Reaches p outside from lines s) → Follows oracle reached
