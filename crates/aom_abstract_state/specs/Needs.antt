-- Needs: tests in the order in which they are looked at, each with the name of its failure.
use Rattle.std.specs.Prelude.{ℕ, suc, Bool, cond, List, [], ◌∷◌, Result, Ok, Err}
use Rattle.aom_abstract_state.specs.AbstractState.{AbstractState}
use Rattle.aom_abstract_state.specs.declared.why.Reason.{Reason}

abbrev pub Need : Type 0
Need = Bool × Reason

-- where a run may go on, and what is known there
abbrev pub Flow : Type 0
Flow = ℕ × AbstractState

-- the first need that is not met, or what there is where all are
abbrev pub judged : {A : Type 0} → List Need → A → Result A Reason
judged [] value = Ok value
judged (need ∷ needs) value = cond need.0 (judged needs value) (Err need.1)

-- the first need that is not met
abbrev pub tested : List Need → Result (Unit {0}) Reason
tested needs = judged needs tt

-- to the next place
abbrev pub to_next : ℕ → AbstractState → List Flow
to_next pc sh = (suc pc, sh) ∷ []
