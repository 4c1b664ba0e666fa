-- The flows of a jump that goes by the request states of the object: two, one of them alone, or none.
use Rattle.std.proofs.Common.{ℕ, ◌==◌, Bool, true, false, cond, List, [], ◌∷◌, ◌++◌}
use Rattle.std.specs.Prelude.{bit_and}
use Rattle.aom_typing_rules.specs.Requests.{flow_narrowed}
use Rattle.aom_abstract_state.specs.Needs.{Flow}
use Rattle.aom_abstract_state.specs.AbstractState.{AbstractState}

-- what holds of each of these lists holds of the flows
pub by_states : (Q : List Flow → Type 0) (sh : AbstractState) (next there here to : ℕ) → Q [] →
    ((s : ℕ) → Q ((next, record sh { states = s }) ∷ [])) → ((t : ℕ) → Q ((to, record sh { states = t }) ∷ [])) →
    ((s t : ℕ) → Q ((next, record sh { states = s }) ∷ (to, record sh { states = t }) ∷ [])) → Q (flow_narrowed sh next here ++ flow_narrowed sh to there)
by_states Q sh next there here to none stays goes both =
    by (bit_and sh.states here) (bit_and sh.states there) (bit_and sh.states here == 0) (bit_and sh.states there == 0)
  where
    by : (s t : ℕ) (x y : Bool) → Q (cond x [] ((next, record sh { states = s }) ∷ []) ++ cond y [] ((to, record sh { states = t }) ∷ []))
    by s t true true = none
    by s t true false = goes t
    by s t false true = stays s
    by s t false false = both s t
