use Rattle.aom_link_conditions.specs.Calls.{CallsOrdered}
use Rattle.aom_link_conditions.proofs.Each.{EachBelow}
use Rattle.aom_link_conditions.proofs.call_order.first_unordered.Given as goal

abbrev pub invariant-loop-number : goal.invariant-loop-number
invariant-loop-number l = EachBelow (CallsOrdered l.image) l.methods l.number
