-- One class more.
use Rattle.std.proofs.Common.{◌∙◌, ap, arith}
use Rattle.aom_roles.specs.Families.{parent_of}
use Rattle.aom_budget.specs.Pricing.{price_by}
use Rattle.aom_budget.proofs.Lined.{line_goes}
use Rattle.aom_budget.proofs.lines.line_cost.Goals as goal

pub loop-here-preserved : goal.loop-here-preserved
loop-here-preserved c = record {
  is = line_goes c.args.linked.now (price_by c.args.prices.now) _ _ _ _ _ _ _ c.in-Some.is (c.perhaps_cost.ensures.is ∙ ap (price_by c.args.prices.now)
      c.own_destructor.ensures) c.kept-cost.ensures (c.parent_of-here.ensures ∙ ap (λ q. parent_of q c.in-Some.class) c.image.ensures) c.loop-here.invariant.is;
  low = omega (arith, c.kept-cost.ensures);
}
