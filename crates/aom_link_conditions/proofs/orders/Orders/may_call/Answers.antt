use Rattle.std.proofs.Common.{sym, subst}
use Rattle.aom_link_conditions.specs.Calls.{OverridersBelow}
use Rattle.aom_link_conditions.specs.Orders.{AreLeast}
use Rattle.aom_link_conditions.proofs.Ordering.{least_at, least_test}
use Rattle.aom_link_conditions.proofs.orders.Orders.may_call.Goals as goal

pub returns : goal.returns
returns c = λ p orders.
    let table = subst (λ ns. AreLeast 1024 ns (λ k m. OverridersBelow p m k)) (sym c.deref.ensures.0) orders.calls in
    least_test _ c.args.method (least_at 1024 _ (λ k m. OverridersBelow p m k) c.args.called _ table c.number.ensures.value c.number.ensures.in_range)
