-- The laws of what is outstanding at natives.
use Rattle.std.specs.Prelude.{ℕ, true, false, ◌≡◌, List, None}
use Rattle.aom_image.specs.Image.{Image}
use Rattle.aom_typing_rules.specs.Typing.{Typing, IsTyped}
use Rattle.aom_safety.specs.Kept.{ClientsFit}
use Rattle.aom_safety.specs.Laws.{IsWired}
use Rattle.aom_semantics.specs.Moves.{step}
use Rattle.aom_semantics.specs.Places.{Cell, named}
use Rattle.aom_semantics.specs.State.{State, Choice, Goes}
use Rattle.aom_semantics.specs.NativeCall.{wanted}
use Rattle.aom_safety.specs.WellTyped.{WellTyped}
use Rattle.aom_semantics.specs.World.{Observed, ObservesWell, Environment, Reaches, boot_state, turn, turning}
use Rattle.aom_transcript.specs.declared.line.Line.{Line}
use Rattle.aom_determinism.specs.Owed.{CompletesOwed, FindsWell, SessionsHold, killed_turned, meets, meets_after, meets_turned, owes, owes_after, owes_turned}

-- as a run begins nothing is outstanding, and no session is open
pub record BootOwesNothing : Type 0 where
  pub owes : (p : Image) (n m : ℕ) → owes p (boot_state p).cells n m ≡ false
  pub meets : (p : Image) (n m : ℕ) → meets p (boot_state p).cells n m ≡ false
  pub sessions : (p : Image) → SessionsHold p (boot_state p)

-- a move changes what is outstanding and what sessions are open as the call that it makes does, and kills no native
pub record FollowsCall (p : Image) (c : Choice) (s u : State) : Type 0 where
  pub finds : FindsWell p s (wanted p s)
  pub owes : (k m : ℕ) → owes p u.cells k m ≡ owes_after (wanted p s) c.answer k m (owes p s.cells k m)
  pub meets : (k m : ℕ) → meets p u.cells k m ≡ meets_after (wanted p s) c.answer k m (meets p s.cells k m)
  pub killed : u.killed ≡ s.killed
  pub sessions : SessionsHold p u

abbrev pub MovesFollowCalls : Type 0
MovesFollowCalls = (p : Image) (t : Typing) (c : Choice) (s u : State) → WellTyped p t s → named s.cells c.name ≡ None → SessionsHold p s → step p c s ≡ Goes u → FollowsCall p c s u

-- a turn changes it where it kills a native, or completes what is outstanding at one; clients change none of it
pub record FollowsTurn (p : Image) (outside : Environment) (observed : Observed) (s u : State) : Type 0 where
  pub completes : CompletesOwed p s.cells (turning outside observed s)
  pub owes : (k m : ℕ) → owes p u.cells k m ≡ owes_turned s.cells (turning outside observed s) k m (owes p s.cells k m)
  pub meets : (k m : ℕ) → meets p u.cells k m ≡ meets_turned (turning outside observed s) k (meets p s.cells k m)
  pub killed : u.killed ≡ killed_turned (turning outside observed s) s.killed
  pub sessions : SessionsHold p u

abbrev pub TurnsKillOrComplete : Type 0
TurnsKillOrComplete =
    (p : Image) (t : Typing) (outside : Environment) (observed : Observed) (s u : State) → WellTyped p t s → ObservesWell p outside observed s → ClientsFit p s.clients s.cells → SessionsHold p s → turn p outside observed s ≡ Goes u →
    FollowsTurn p outside observed s u

-- so sessions hold all along a run
abbrev pub RunsKeepSessions : Type 0
RunsKeepSessions = (p : Image) (t : Typing) (outside : Environment) → IsWired p → IsTyped p t → (lines : List Line) (s : State) → Reaches p outside (boot_state p) lines s → SessionsHold p s

-- a cell owes at one native alone
abbrev pub OwesAtOne : Type 0
OwesAtOne = (p : Image) (cs : List Cell) (n k m : ℕ) → owes p cs n m ≡ true → owes p cs k m ≡ true → n ≡ k
