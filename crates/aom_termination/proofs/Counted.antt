-- The steps that are counted after a move: at most those before it and those that it is, or none as the dispatch of an object ends.
use Rattle.std.proofs.Common.{◌≡◌, ◌≤◌, ◌+◌, ◌∙◌, ℕ, true, false, cond, List, ap, arith}
use Rattle.aom_image.specs.Image.{Image}
use Rattle.aom_termination.proofs.SafetyLemmas.{move_steps}
use Rattle.aom_safety.specs.Counting.{restarts, steps_of}
use Rattle.aom_semantics.specs.Moves.{counted, is_counted, step}
use Rattle.aom_semantics.specs.State.{Choice, Goes, State, Task, raised}

counted_less : (ts : List Task) (n : ℕ) → cond (is_counted ts) (raised n) n ≤ n + steps_of ts
counted_less x n = grind arith

module _ (p : Image) (ch : Choice) (s u : State) (goes : step p ch s ≡ Goes u) where
  pub none_counted : restarts p s.tasks ≡ true → u.rest.steps ≡ 0
  none_counted ends = move_steps p ch s u goes ∙ ap (λ b. cond b 0 (counted p s).rest.steps) ends

  pub steps_counted : restarts p s.tasks ≡ false → u.rest.steps ≤ s.rest.steps + steps_of s.tasks
  steps_counted on = omega (arith, move_steps p ch s u goes ∙ ap (λ b. cond b 0 (counted p s).rest.steps) on, counted_less s.tasks s.rest.steps)
