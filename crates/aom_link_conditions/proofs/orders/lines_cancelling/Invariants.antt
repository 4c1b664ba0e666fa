use Rattle.aom_link_conditions.specs.Calls.{CancelsBelow}
use Rattle.aom_link_conditions.specs.Orders.{AreLeast}
use Rattle.aom_link_conditions.proofs.orders.lines_cancelling.Given as goal

abbrev pub invariant-loop-class : goal.invariant-loop-class
invariant-loop-class l = AreLeast l.class l.lines.items (λ c m. CancelsBelow l.image m c)
