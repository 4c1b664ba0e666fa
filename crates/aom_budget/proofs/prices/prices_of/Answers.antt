-- The methods are priced one by one.
use Rattle.std.proofs.Common.{rules, ◌≡◌, ◌<◌, List, length, ◌∙◌, ap, arith, refl, subst, sym, IsSome}
use Rattle.aom_image.specs.Image.{Image}
use Rattle.aom_image.specs.Views.{method_at}
use Rattle.aom_image.specs.WellFormed.{WellFormed}
use Rattle.aom_image.specs.declared.method.Method.{Method}
use Rattle.aom_budget.proofs.StaticBoundsLemmas.{within_method}
use Rattle.aom_budget.specs.Costing.{AreCosts}
use Rattle.aom_budget.specs.Pricing.{IsMethodPriced}
use Rattle.aom_budget.proofs.Priced.{are_priced, priced_first, priced_more}
use Rattle.aom_budget.proofs.prices.prices_of.Goals as goal

pub loop-index-init : goal.loop-index-init
loop-index-init c = record {
  priced = rw (c.in_ok-costs.ensures.prices, c.linked-linked.ensures) (priced_first _ _ refl);
  costs = subst (λ q. AreCosts q c.in_ok-costs.costs) c.linked-linked.ensures c.in_ok-costs.ensures.costs;
}

pub price_of-requires-clause-method : goal.price_of-requires-clause-method
price_of-requires-clause-method c =
    let shown : c.methods-methods.result.now ≡ c.args.checked.now.methods = c.methods-methods.ensures.value
    ∙ ap (λ (p : Image). p.methods) (c.image.ensures ∙ c.linked-linked.ensures) in
    let count : c.len-index-end.result ≡ length c.args.checked.now.methods = c.len-index-end.ensures ∙ ap (λ (xs : List Method). length xs) shown in
    rw c.number_at.ensures (within_method c.args.checked.now _ (omega (arith, c.loop-index-test.true, count)))

pub set-requires : goal.set-requires
set-requires c =
    let shown : c.methods-methods.result.now ≡ c.args.checked.now.methods = c.methods-methods.ensures.value
    ∙ ap (λ (p : Image). p.methods) (c.image.ensures ∙ c.linked-linked.ensures) in
    let count : c.len-index-end.result ≡ length c.args.checked.now.methods = c.len-index-end.ensures ∙ ap (λ (xs : List Method). length xs) shown in
    let there : IsSome (method_at c.linked-linked.result.now c.loop-index.index) =
    rw c.linked-linked.ensures (within_method c.args.checked.now _ (omega (arith, c.loop-index-test.true, count))) in
    record {
      costs = subst (λ q. AreCosts q c.loop-index.costs) (sym c.linked-linked.ensures) c.loop-index.invariant.costs;
      method = rw c.number_at-in-loop-index.ensures there;
      unset = rw c.number_at-in-loop-index.ensures (c.loop-index.invariant.priced.others c.loop-index.index (omega arith));
      low = c.in_ok-price.ensures.low;
    }

pub loop-index-preserved : goal.loop-index-preserved
loop-index-preserved c =
    let shown : c.methods-methods.result.now ≡ c.args.checked.now.methods = c.methods-methods.ensures.value
    ∙ ap (λ (p : Image). p.methods) (c.image.ensures ∙ c.linked-linked.ensures) in
    let count : c.len-index-end.result ≡ length c.args.checked.now.methods = c.len-index-end.ensures ∙ ap (λ (xs : List Method). length xs) shown in
    let within : c.loop-index.index < length c.args.checked.now.methods = omega (arith, c.loop-index-test.true, count) in
    let here : IsMethodPriced c.args.checked.now c.loop-index.costs.prices c.loop-index.index c.in_ok-price.price =
    rw c.number_at.ensures at c.in_ok-price.ensures.price in
    record {
      priced = rw (c.set.ensures.prices, c.number_at-in-loop-index.ensures) (priced_more _ _ _ _ c.loop-index.invariant.priced within here);
      costs = subst (λ q. AreCosts q c.set.new.self) c.linked-linked.ensures c.set.ensures.costs;
    }

pub returns : goal.returns
returns c =
    let shown : c.methods-methods.result.now ≡ c.args.checked.now.methods = c.methods-methods.ensures.value
    ∙ ap (λ (p : Image). p.methods) (c.image.ensures ∙ c.linked-linked.ensures) in
    let count : c.loop-index.index ≡ length c.args.checked.now.methods = search rules in
    let formed : WellFormed c.args.checked.now = rw (c.image.ensures ∙ c.linked-linked.ensures) at c.methods-methods.ensures.well_formed in
    are_priced _ _ formed (rw c.linked-linked.ensures at c.facts.ensures.linked) (rw count at c.loop-index.invariant.priced)
