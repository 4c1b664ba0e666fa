use Rattle.std.proofs.Common.{subst, sym}
use Rattle.aom_link_conditions.specs.Calls.{CancelsBelow}
use Rattle.aom_link_conditions.specs.Orders.{AreLeast}
use Rattle.aom_link_conditions.proofs.Ordering.{greatest_least}
use Rattle.aom_link_conditions.proofs.orders.cancels_of.Goals as goal

pub returns : goal.returns
returns c =
    let lines = subst (λ ns. AreLeast 256 ns (λ k m. CancelsBelow c.args.image.now m k)) (sym c.as_slice.ensures.value) c.lines_cancelling-lines.ensures in
    greatest_least c.args.image.now _ _ (λ k m. CancelsBelow c.args.image.now m k) c.greatest_each.ensures.few lines c.greatest_each.ensures.most
