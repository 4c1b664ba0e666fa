-- The methods below have their prices.
use Rattle.aom_budget.specs.Costing.{AreCosts}
use Rattle.aom_budget.specs.Pricing.{ArePricedBelow}
use Rattle.aom_budget.proofs.prices.prices_of.Given as goal

abbrev pub invariant-loop-index : goal.invariant-loop-index
invariant-loop-index l = record { priced : ArePricedBelow l.checked l.index l.costs.prices; costs : AreCosts l.checked l.costs }
