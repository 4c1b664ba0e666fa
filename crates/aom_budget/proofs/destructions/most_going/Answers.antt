-- One class more, and all of them.
use Rattle.std.proofs.Common.{ℕ, ◌≡◌, arith, length, rules}
use Rattle.std.specs.Prelude.{max}
use Rattle.aom_image.specs.declared.method.Thing.TheVariants.{Object}
use Rattle.aom_static_bounds.specs.Sweeping.{whole_going}
use Rattle.aom_budget.specs.Pricing.{price_by}
use Rattle.aom_budget.proofs.Destroyed.{most_all, most_one}
use Rattle.aom_budget.proofs.destructions.most_going.Goals as goal

pub loop-index-preserved : goal.loop-index-preserved
loop-index-preserved c =
    let most : c.max-most.result ≡ max c.loop-index.most c.standing_cost.result = search rules in
    record {
      is = most_one c.args.linked.now (λ (y : ℕ). whole_going c.args.linked.now (price_by c.args.prices.now) (Object y)) c.args.class _ _ _ _ _ _
          c.class_number.ensures c.standing_cost.ensures.is most c.loop-index.invariant.is;
      low = omega (arith, most, c.standing_cost.ensures.low, c.loop-index.invariant.low);
    }

pub returns-clause-is : goal.returns-clause-is
returns-clause-is c =
    let count : c.loop-index.index ≡ length c.args.linked.now.classes = search rules in
    most_all c.args.linked.now (λ (y : ℕ). whole_going c.args.linked.now (price_by c.args.prices.now) (Object y)) c.args.class _ _ count c.loop-index.invariant.is
