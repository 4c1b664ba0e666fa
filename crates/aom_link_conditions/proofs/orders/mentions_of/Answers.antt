use Rattle.std.proofs.Common.{subst, sym}
use Rattle.aom_link_conditions.specs.Calls.{EndsBelow}
use Rattle.aom_link_conditions.specs.Orders.{AreLeast}
use Rattle.aom_link_conditions.proofs.Ordering.{greatest_least}
use Rattle.aom_link_conditions.proofs.orders.mentions_of.Goals as goal

pub returns : goal.returns
returns c =
    let ends = subst (λ ns. AreLeast 256 ns (λ k m. EndsBelow c.args.image.now m k)) (sym c.as_slice-2.ensures.value) c.endings-ends.ensures in
    greatest_least c.args.image.now _ _ (λ k m. EndsBelow c.args.image.now m k) c.greatest_each.ensures.few ends c.greatest_each.ensures.most
