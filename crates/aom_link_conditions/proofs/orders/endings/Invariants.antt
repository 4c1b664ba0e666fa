use Rattle.aom_link_conditions.specs.Calls.{EndsBelow}
use Rattle.aom_link_conditions.specs.Orders.{AreLeast}
use Rattle.aom_link_conditions.proofs.orders.endings.Given as goal

abbrev pub invariant-loop-class : goal.invariant-loop-class
invariant-loop-class l = AreLeast l.class l.ends.items (λ c m. EndsBelow l.image m c)
