-- The most over the class and the descendants below a number.
use Rattle.std.proofs.Common.{◌≡◌, ◌≤◌}
use Rattle.std.specs.Prelude.{max}
use Rattle.aom_image.specs.declared.method.Thing.TheVariants.{Object}
use Rattle.aom_roles.specs.Families.{descends}
use Rattle.aom_static_bounds.specs.Most.{most_of}
use Rattle.aom_static_bounds.specs.Sweeping.{whole_going}
use Rattle.aom_budget.specs.Pricing.{kept, price_by}
use Rattle.aom_budget.proofs.destructions.most_going.Given as goal

abbrev pub invariant-loop-index : goal.invariant-loop-index
invariant-loop-index l = record {
  is : l.most ≡ max (kept (whole_going l.linked (price_by l.prices) (Object l.class)))
      (most_of (λ y. descends l.linked y l.class) (λ y. kept (whole_going l.linked (price_by l.prices) (Object y))) l.index);
  low : l.most ≤ 4294967296;
}
