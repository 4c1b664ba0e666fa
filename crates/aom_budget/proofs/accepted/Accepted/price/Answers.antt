-- The number that was found of the method.
use Rattle.std.proofs.Common.{IsSome, sym, subst}
use Rattle.aom_image.specs.Image.{Image}
use Rattle.aom_image.specs.Views.{method_at}
use Rattle.aom_budget.specs.Pricing.{IsPriceUpTo}
use Rattle.aom_budget.proofs.Priced.{price_up_to}
use Rattle.aom_budget.proofs.accepted.Accepted.price.Goals as goal

pub returns : goal.returns
returns c =
    let here : IsSome (method_at c.self.inside.checked c.args.method) = subst (λ (q : Image). IsSome (method_at q c.args.method)) (sym c.self.view_is) c.requires in
    subst (λ q. IsPriceUpTo q c.args.method c.price.result) c.self.view_is (rw c.price.ensures (price_up_to _ _ _ c.self.invariant.3.priced here))
