use Rattle.aom_link_conditions.specs.Orders.{IsLeast}
use Rattle.aom_link_conditions.proofs.Ordering.{ReachesSome}
use Rattle.aom_link_conditions.proofs.orders.greatest.Given as goal

abbrev pub invariant-loop-other : goal.invariant-loop-other
invariant-loop-other l = IsLeast l.most (ReachesSome l.image l.table l.class l.other)
