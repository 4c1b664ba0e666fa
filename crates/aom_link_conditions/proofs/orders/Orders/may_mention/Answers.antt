use Rattle.std.proofs.Common.{sym, subst}
use Rattle.aom_link_conditions.specs.Calls.{Mentions}
use Rattle.aom_link_conditions.specs.Orders.{AreLeast}
use Rattle.aom_link_conditions.proofs.Ordering.{least_at, least_test}
use Rattle.aom_link_conditions.proofs.orders.Orders.may_mention.Goals as goal

pub returns : goal.returns
returns c = λ p orders.
    let table = subst (λ ns. AreLeast 256 ns (λ k m. Mentions p m k)) (sym c.deref.ensures.0) orders.mentions in
    least_test _ c.args.method (least_at 256 _ (λ k m. Mentions p m k) c.args.class c.number.result table c.number.ensures.value c.number.ensures.in_range)
