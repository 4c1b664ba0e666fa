-- Each table is raised by what counts for it, and stays otherwise.
use Rattle.std.proofs.Common.{arith, refl}
use Rattle.aom_budget.proofs.StaticBoundsLemmas.{method_within}
use Rattle.aom_budget.proofs.Found.{called_now, cancelled_low, cancelled_still, destroyed_low, destroyed_still, destructs_not, is_set, set_size}
use Rattle.aom_budget.proofs.costs.Costs.set.Goals as goal

pub set-requires-clause-within : goal.set-requires-clause-within
set-requires-clause-within c = omega (arith, method_within _ _ c.requires.method, c.requires.costs.size, c.number.ensures.value)

pub raise_destroyed-requires-clause-below : goal.raise_destroyed-requires-clause-below
raise_destroyed-requires-clause-below c =
    let set = is_set _ _ _ _ _ _ c.requires.method c.requires.costs.size c.requires.unset c.number.ensures.value c.set.ensures in
    destroyed_low _ _ _ _ _ set _ c.method.ensures _ c.requires.costs.destroyed

pub raise_cancel_costs-requires-clause-below : goal.raise_cancel_costs-requires-clause-below
raise_cancel_costs-requires-clause-below c =
    let set = is_set _ _ _ _ _ _ c.requires.method c.requires.costs.size c.requires.unset c.number.ensures.value c.set.ensures in
    cancelled_low _ _ _ _ _ set _ c.method.ensures _ c.requires.costs.cancelled

pub returns-in-Destruct-clause-costs : goal.returns-in-Destruct-clause-costs
returns-in-Destruct-clause-costs c =
    let set = is_set _ _ _ _ _ _ c.requires.method c.requires.costs.size c.requires.unset c.number.ensures.value c.set.ensures in
    record {
      size = set_size _ _ _ _ _ set;
      called = called_now _ _ _ _ _ set (rw c.image.ensures at c.methods-formed.ensures.well_formed)
          _ _ _ _ c.image-2.ensures refl c.requires.costs.called c.raise_called.ensures.size c.raise_called.ensures.each;
      cancelled = cancelled_still _ _ _ _ _ set _ c.method.ensures _ (λ other. destructs_not c.method.result.now other c.in-Destruct.is) c.requires.costs.cancelled;
      destroyed = c.raise_destroyed.ensures;
    }

pub returns-in-Cancel-clause-costs : goal.returns-in-Cancel-clause-costs
returns-in-Cancel-clause-costs c =
    let set = is_set _ _ _ _ _ _ c.requires.method c.requires.costs.size c.requires.unset c.number.ensures.value c.set.ensures in
    record {
      size = set_size _ _ _ _ _ set;
      called = called_now _ _ _ _ _ set (rw c.image.ensures at c.methods-formed.ensures.well_formed)
          _ _ _ _ c.image-2.ensures refl c.requires.costs.called c.raise_called.ensures.size c.raise_called.ensures.each;
      cancelled = c.raise_cancel_costs.ensures;
      destroyed = destroyed_still _ _ _ _ _ set _ c.method.ensures _ (destructs_not c.method.result.now c.in-Cancel.is) c.requires.costs.destroyed;
    }

pub returns-in_default : goal.returns-in_default
returns-in_default c =
    let set = is_set _ _ _ _ _ _ c.requires.method c.requires.costs.size c.requires.unset c.number.ensures.value c.set.ensures in
    record {
      costs = record {
        size = set_size _ _ _ _ _ set;
        called = called_now _ _ _ _ _ set (rw c.image.ensures at c.methods-formed.ensures.well_formed)
            _ _ _ _ c.image-2.ensures refl c.requires.costs.called c.raise_called.ensures.size c.raise_called.ensures.each;
        cancelled = cancelled_still _ _ _ _ _ set _ c.method.ensures _ c.in_default.not-Cancel c.requires.costs.cancelled;
        destroyed = destroyed_still _ _ _ _ _ set _ c.method.ensures _ c.in_default.not-Destruct c.requires.costs.destroyed;
      };
      prices = set.is;
    }
