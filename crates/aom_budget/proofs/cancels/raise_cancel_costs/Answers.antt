-- One class more, and all of them.
use Rattle.std.proofs.Common.{◌≡◌, ◌∙◌, ap, length, rules, sym}
use Rattle.aom_image.specs.declared.method.Role.TheVariants.{Cancel}
use Rattle.aom_link_conditions.specs.Roles.{role_of}
use Rattle.aom_static_bounds.specs.Calls.{listed}
use Rattle.aom_budget.specs.Pricing.{price_by}
use Rattle.aom_budget.proofs.Lined.{absent_cancels, most_listed}
use Rattle.aom_budget.proofs.Raised.{greatest_made, raised_next}
use Rattle.aom_budget.proofs.cancels.raise_cancel_costs.Goals as goal

pub loop-index-preserved : goal.loop-index-preserved
loop-index-preserved c = raised_next c.args.linked.now _ _ _ _ _ _ _ _ c.image-in-loop-index.ensures c.class_number-class.ensures
    (c.perhaps_cost-cost.ensures.is ∙ ap (price_by c.args.prices.now) c.role.ensures
    ∙ sym (most_listed c.args.prices.now _)) c.loop-index.invariant c.raise_class.ensures.size c.raise_class.ensures.each

pub returns : goal.returns
returns c =
    let count : c.loop-index.index ≡ length c.args.linked.now.classes = search rules in
    greatest_made c.args.linked.now c.args.prices.now (λ y. listed (role_of c.args.linked.now y Cancel)) (absent_cancels c.args.linked.now
    (rw c.image.ensures at c.classes.ensures.well_formed)) _ _ c.requires.size c.requires.below (rw count at c.loop-index.invariant)
