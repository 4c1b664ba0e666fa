use Rattle.aom_abstract_state.proofs.Ordering.{undecided, passes_not}
use Rattle.aom_abstract_state.proofs.order.weaker_if.Goals as goal

pub returns-then-has_same_entries : goal.returns-then-has_same_entries
returns-then-has_same_entries c = λ xs ys e. c.known_is_implied.ensures xs ys (e.0 c.if-has_same_entries.true)

pub returns-else-has_same_entries : goal.returns-else-has_same_entries
returns-else-has_same_entries c = λ xs ys e. undecided _ _ _ c.if-has_same_entries.false (passes_not _ e c.if-has_same_entries.false)
