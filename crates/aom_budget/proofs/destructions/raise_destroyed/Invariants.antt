-- So many classes have raised the table.
use Rattle.aom_image.specs.declared.method.Thing.TheVariants.{Object}
use Rattle.aom_static_bounds.specs.Sweeping.{whole_going}
use Rattle.aom_budget.specs.Pricing.{kept, price_by}
use Rattle.aom_budget.proofs.Raised.{IsRaised}
use Rattle.aom_budget.proofs.destructions.raise_destroyed.Given as goal

abbrev pub invariant-loop-index : goal.invariant-loop-index
invariant-loop-index l = IsRaised l.linked (λ y. kept (whole_going l.linked (price_by l.prices) (Object y))) l.fn.table l.index l.table
