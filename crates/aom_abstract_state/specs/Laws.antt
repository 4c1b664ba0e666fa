-- The law of the order.
use Rattle.aom_abstract_state.specs.Order.{IsImpliedBy}
use Rattle.aom_abstract_state.specs.AbstractState.{AbstractState}

-- the order is one
pub record IsOrder : Type 0 where
  pub reflexive : (a : AbstractState) → IsImpliedBy a a
  pub transitive : (a b c : AbstractState) → IsImpliedBy a b → IsImpliedBy b c → IsImpliedBy a c
