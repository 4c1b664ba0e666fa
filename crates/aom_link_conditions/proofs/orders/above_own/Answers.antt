use Rattle.std.proofs.Common.{◌∙◌, subst}
use Rattle.aom_link_conditions.specs.Calls.{AllBelow}
use Rattle.aom_link_conditions.specs.Orders.{IsLeast}
use Rattle.aom_link_conditions.proofs.orders.above_own.Goals as goal

pub returns : goal.returns
returns c = subst (λ ms. IsLeast c.above_role.result (λ m. AllBelow ms m c.args.class c.args.role))
    (c.as_slice.ensures ∙ c.methods.ensures.value) c.above_role.ensures
