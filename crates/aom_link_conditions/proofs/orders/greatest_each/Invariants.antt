use Rattle.aom_link_conditions.specs.Orders.{AreLeast, ReachesAll}
use Rattle.aom_link_conditions.proofs.orders.greatest_each.Given as goal

abbrev pub invariant-loop-class : goal.invariant-loop-class
invariant-loop-class l = AreLeast l.class l.most.items (λ c m. ReachesAll l.image l.table c m)
