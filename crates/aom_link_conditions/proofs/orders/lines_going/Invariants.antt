use Rattle.aom_link_conditions.specs.Calls.{GoesBelow}
use Rattle.aom_link_conditions.specs.Orders.{AreLeast}
use Rattle.aom_link_conditions.proofs.orders.lines_going.Given as goal

abbrev pub invariant-loop-class : goal.invariant-loop-class
invariant-loop-class l = AreLeast l.class l.lines.items (λ c m. GoesBelow l.image m c)
