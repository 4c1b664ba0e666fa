use Rattle.aom_abstract_state.proofs.Ordering.{reflexive, transitive}
use Rattle.aom_abstract_state.proofs.laws.order_is_one.Goals as goal

pub returns : goal.returns
returns c = record { reflexive = reflexive; transitive = transitive }
