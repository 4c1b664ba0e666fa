-- Who pays stays the same while a dispatch goes on, and main pays once the dispatch of an object has ended.
use Rattle.std.proofs.lemmas.Bool.Decides.{nat_tests}
use Rattle.std.proofs.Common.{arith, ◌≡◌, ℕ, cond, List, ◌∷◌, None, refl, arith}
use Rattle.aom_image.specs.Image.{Image}
use Rattle.aom_termination.proofs.SafetyLemmas.{steps_are_moves}
use Rattle.aom_semantics.specs.Cleanup.{to_trap}
use Rattle.aom_safety.specs.Counting.{restarts}
use Rattle.aom_semantics.specs.Destruction.{begun}
use Rattle.aom_semantics.specs.Effects.{Effect, applied}
use Rattle.aom_semantics.specs.Moves.{step}
use Rattle.aom_semantics.specs.Places.{Object}
use Rattle.aom_semantics.specs.State.{Choice, Frame, Goes}
use Rattle.aom_semantics.specs.State.{Run, State, Task}
use Rattle.aom_safety.specs.Steps.{Move}
use Rattle.aom_termination.specs.BudgetOwners.{budget_owner}

-- ---- tasks

trap_budget_owner : (ts : List Task) → budget_owner (to_trap ts) ≡ budget_owner ts
trap_budget_owner (Run fr ∷ ts) = trap_budget_owner ts
trap_budget_owner _ = refl

pub begun_budget_owner : (p : Image) (o : Object) (height : ℕ) (ts : List Task) → budget_owner (begun p o height ts) ≡ budget_owner ts
begun_budget_owner p o height ts = grind (arith, nat_tests)

-- ---- effects, and the ends of dispatches

acts_budget_owner : (p : Image) (fr : Frame) (ts : List Task) (v : State) → v.tasks ≡ Run fr ∷ ts → (e : Effect) → budget_owner (applied p fr ts v e).tasks ≡ budget_owner ts
acts_budget_owner p fr ts v at x = grind (arith, nat_tests, trap_budget_owner ts, begun_budget_owner p)

-- ---- moves

module _ (p : Image) (ch : Choice) (s : State) where
  moved : (u : State) → Move p ch s u → budget_owner u.tasks ≡ cond (restarts p s.tasks) None (budget_owner s.tasks)
  moved u x = grind (arith, nat_tests, acts_budget_owner p, begun_budget_owner p)

pub budget_owners : (p : Image) (ch : Choice) (s u : State) → step p ch s ≡ Goes u → budget_owner u.tasks ≡ cond (restarts p s.tasks) None (budget_owner s.tasks)
budget_owners p ch s u goes = moved p ch s u (steps_are_moves p ch s u goes)
