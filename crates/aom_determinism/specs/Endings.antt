-- What is left of a run, and that it can be brought to its end.
use Rattle.std.specs.Prelude.{◌≡◌, ◌<◌, ◌≤◌, ◌+◌, ◌-◌, ◌^◌, ◌++◌, is_some, ℕ, Bool, true, false, List, []}
use Rattle.aom_image.specs.Image.{Image}
use Rattle.aom_link_conditions.specs.Linked.{IsLinked}
use Rattle.aom_typing_rules.specs.Typing.{Typing, IsTyped}
use Rattle.aom_safety.specs.Laws.{IsWired}
use Rattle.aom_semantics.specs.Moves.{step}
use Rattle.aom_semantics.specs.State.{Choice, Goes, OwnedObject, State}
use Rattle.aom_safety.specs.WellTyped.{WellTyped}
use Rattle.aom_semantics.specs.World.{Environment, Picks, Reaches, Run_of, boot_state, turned}
use Rattle.aom_termination.specs.BudgetOwners.{budget_owner}
use Rattle.aom_transcript.specs.declared.line.Line.{Line}
use Rattle.aom_transcript.specs.declared.line.Ending.{Ending}

-- ---- how many dispatches there may still be

abbrev pub one_where : Bool → ℕ
one_where true = 1
one_where false = 0

-- the dispatches of objects that have begun
abbrev pub begun : State → ℕ
begun s = s.rest.dispatches + one_where (is_some (budget_owner s.tasks))

abbrev pub spare : ℕ → State → ℕ
spare limit s = limit - begun s

-- no move makes more of them, and the pick of an object takes one
pub record DispatchesAreSpent : Type 0 where
  pub moves : (p : Image) (limit : ℕ) → limit ≤ 2 ^ 64 - 1 → (c : Choice) (s u : State) → step p c s ≡ Goes u → spare limit u ≤ spare limit s
  pub picks : (p : Image) (limit : ℕ) (s u : State) (x : OwnedObject) → s.rest.dispatches < limit → s.tasks ≡ [] → turned p s (Picks x) ≡ Goes u → spare limit u < spare limit s

-- ---- the end of a run

-- lines go on to those of a whole run
pub record CanEnd (p : Image) (outside : Environment) (lines : List Line) : Type 0 where
  pub more : List Line
  pub last : State
  pub ending : Ending
  pub run : Run_of p outside (lines ++ more) last ending

-- from each state of a run
abbrev pub RunsCanEnd : Type 0
RunsCanEnd =
    (p : Image) (t : Typing) (outside : Environment) → outside.limit ≤ 2 ^ 64 - 1 → IsWired p → IsLinked p → IsTyped p t →
    (lines : List Line) (s : State) → Reaches p outside (boot_state p) lines s → WellTyped p t s → CanEnd p outside lines
