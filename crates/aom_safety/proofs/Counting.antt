-- The steps are counted: what a move counts stays as it is, whatever the move does.
use Rattle.std.proofs.lemmas.Bool.Decides.{nat_tests}
use Rattle.std.specs.Prelude.{◌⊎◌}
use Rattle.aom_safety.proofs.Guarded.{guarded_goes}
use Rattle.std.proofs.Common.{Bool, List, ap, arith, cond, refl, ℕ, ◌+◌, ◌∙◌, ◌≡◌}
use Rattle.aom_image.specs.Image.{Image}
use Rattle.aom_safety.proofs.Moving.{steps_are_moves}
use Rattle.aom_safety.proofs.Resting.{move_rest, IsEnd, Takes}
use Rattle.aom_safety.specs.Counting.{DispatchesAreCounted, StepsAreCounted, ends_object, in_range, restarts, starts, steps_of, taken}
use Rattle.aom_semantics.specs.Moves.{counted, dispatch_ends, step}
use Rattle.aom_semantics.specs.State.{Choice, Dispatch, Goes, Counters, State, raised}
use Rattle.aom_semantics.specs.World.{Observed, Environment, Reaches, Turning, begins, boot_state, moves, turn, turned, turning, turns}
use Rattle.aom_transcript.specs.declared.line.Line.{Line}

-- the counts after a move, by those before it: where the dispatch of an object ends steps are counted anew, and it counts
abbrev Counts : Bool → Counters → Counters → Type 0
Counts ends r u = (u.steps ≡ cond ends 0 r.steps) × (u.dispatches ≡ cond ends (raised r.dispatches) r.dispatches)

end_counts : (p : Image) (d : Dispatch) (s : State) → Counts (ends_object p d) s.rest (dispatch_ends p d s).rest
end_counts p x s = grind (arith, nat_tests)

-- a move counts, and nothing else does
move_counts : (p : Image) (c : Choice) (s u : State) → step p c s ≡ Goes u → Counts (restarts p s.tasks) (counted p s).rest u.rest
move_counts p c s u e = grind (
  arith,
  nat_tests,
  move_rest p c s u (steps_are_moves p c s u e),
  steps_are_moves p c s u e,
  Takes p s u ⊎ IsEnd p s u,
  IsEnd p s u,
  guarded_goes,
  end_counts p,
)

pub move_steps : (p : Image) (c : Choice) (s u : State) → step p c s ≡ Goes u → u.rest.steps ≡ cond (restarts p s.tasks) 0 (counted p s).rest.steps
move_steps p c s u e = (move_counts p c s u e).0

-- the next count is that of all that is taken
moves_count : (p : Image) (c : Choice) (s u : State) → s.rest.steps ≡ in_range s.rest.steps → step p c s ≡ Goes u →
    u.rest.steps ≡ cond (restarts p s.tasks) 0 (in_range (s.rest.steps + steps_of s.tasks))
moves_count p c s u within e = move_steps p c s u e ∙ ap (λ n. cond (restarts p s.tasks) 0 n) (grind arith)

-- a turn counts anew where it dispatches an object
turn_count : (p : Image) (outside : Environment) (observed : Observed) (s u : State) → turn p outside observed s ≡ Goes u →
    u.rest.steps ≡ cond (starts (turning outside observed s)) 0 s.rest.steps
turn_count p outside observed s u e = go (turning outside observed s) e
  where
    go : (k : Turning) → turned p s k ≡ Goes u → u.rest.steps ≡ cond (starts k) 0 s.rest.steps
    go x e = grind arith

-- and ends no dispatch
turn_dispatches : (p : Image) (outside : Environment) (observed : Observed) (s u : State) → turn p outside observed s ≡ Goes u → u.rest.dispatches ≡ s.rest.dispatches
turn_dispatches p outside observed s u e = go (turning outside observed s) e
  where
    go : (k : Turning) → turned p s k ≡ Goes u → u.rest.dispatches ≡ s.rest.dispatches
    go x e = grind arith

anew : (b : Bool) (n : ℕ) → cond b 0 (in_range n) ≡ in_range (cond b 0 n)
anew x n = grind arith

runs_count : (p : Image) (outside : Environment) {lines : List Line} {s : State} (reached : Reaches p outside (boot_state p) lines s) →
    s.rest.steps ≡ in_range (taken reached)
runs_count p outside begins = refl
runs_count p outside (moves {s = s} {u = u} c reached busy opened goes) = grind (arith, nat_tests, runs_count p outside reached, moves_count p c s u, anew)
runs_count p outside (turns {s = s} {u = u} observed reached between well goes) =
    grind (arith, nat_tests, turn_count p outside observed s u goes, runs_count p outside reached, anew)

pub steps_are_counted : StepsAreCounted
steps_are_counted = record { boot = λ p. refl; moves = moves_count; turns = turn_count; runs = λ p outside lines s reached. runs_count p outside reached }

pub dispatches_are_counted : DispatchesAreCounted
dispatches_are_counted = record { moves = λ p c s u e. (move_counts p c s u e).1; turns = turn_dispatches }
