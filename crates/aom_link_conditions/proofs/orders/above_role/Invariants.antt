use Rattle.std.proofs.Common.{◌<◌, IsTrue}
use Rattle.aom_link_conditions.specs.Orders.{IsLeast}
use Rattle.aom_link_conditions.specs.Roles.{fills_role}
use Rattle.aom_link_conditions.proofs.Each.{EachBelow}
use Rattle.aom_link_conditions.proofs.orders.above_role.Given as goal

abbrev pub invariant-loop-number : goal.invariant-loop-number
invariant-loop-number l = IsLeast l.above (λ m. EachBelow (λ k d. IsTrue (fills_role l.class l.role d) → k < m) l.methods l.number)
