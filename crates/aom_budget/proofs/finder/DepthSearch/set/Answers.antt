-- Each table is raised by what counts for it, and stays otherwise.
use Rattle.std.proofs.Common.{◌≡◌, arith, refl, rules}
use Rattle.aom_budget.proofs.StaticBoundsLemmas.{method_within}
use Rattle.aom_budget.proofs.Found.{called_now, cancelled_low, cancelled_still, destructs_not, gone_low, gone_still, is_set, set_size}
use Rattle.aom_budget.proofs.finder.DepthSearch.set.Goals as goal

pub set-requires : goal.set-requires
set-requires c = omega (arith, method_within _ _ c.requires.method, c.requires.reached.deep)

pub set-requires-2 : goal.set-requires-2
set-requires-2 c = omega (arith, method_within _ _ c.requires.method, c.requires.reached.high)

pub raise_destruction-requires-clause-below : goal.raise_destruction-requires-clause-below
raise_destruction-requires-clause-below c =
    let deep = is_set _ _ _ _ _ _ c.requires.method c.requires.reached.deep c.requires.shallow refl c.set.ensures in
    gone_low _ _ _ _ _ deep _ c.method.ensures _ c.requires.reached.gone

pub raise_cancel_depths-requires-clause-below : goal.raise_cancel_depths-requires-clause-below
raise_cancel_depths-requires-clause-below c =
    let deep = is_set _ _ _ _ _ _ c.requires.method c.requires.reached.deep c.requires.shallow refl c.set.ensures in
    cancelled_low _ _ _ _ _ deep _ c.method.ensures _ c.requires.reached.cancelled

pub returns-in-Destruct-clause-reached : goal.returns-in-Destruct-clause-reached
returns-in-Destruct-clause-reached c =
    let shallow : c.from.result ≡ c.args.extent.depth = search rules in
    let flat : c.from-2.result ≡ c.args.extent.height = search rules in
    let formed = rw c.image-image.ensures at c.methods-formed.ensures.well_formed in
    let deep = is_set _ _ _ _ _ _ c.requires.method c.requires.reached.deep c.requires.shallow refl c.set.ensures in
    let high = is_set _ _ _ _ _ _ c.requires.method c.requires.reached.high c.requires.flat refl c.set-2.ensures in
    record {
      deep = set_size _ _ _ _ _ deep;
      high = set_size _ _ _ _ _ high;
      called = called_now _ _ _ _ _ deep formed _ _ _ _ c.image-image.ensures shallow c.requires.reached.called c.raise_called.ensures.size
          c.raise_called.ensures.each;
      entered = called_now _ _ _ _ _ high formed _ _ _ _ c.image-image.ensures flat c.requires.reached.entered c.raise_called-2.ensures.size
          c.raise_called-2.ensures.each;
      cancelled = cancelled_still _ _ _ _ _ deep _ c.method.ensures _
          (λ other. destructs_not c.method.result.now other c.in-Destruct.is) c.requires.reached.cancelled;
      gone = c.raise_destruction.ensures;
    }

pub returns-in-Cancel-clause-reached : goal.returns-in-Cancel-clause-reached
returns-in-Cancel-clause-reached c =
    let shallow : c.from.result ≡ c.args.extent.depth = search rules in
    let flat : c.from-2.result ≡ c.args.extent.height = search rules in
    let formed = rw c.image-image.ensures at c.methods-formed.ensures.well_formed in
    let deep = is_set _ _ _ _ _ _ c.requires.method c.requires.reached.deep c.requires.shallow refl c.set.ensures in
    let high = is_set _ _ _ _ _ _ c.requires.method c.requires.reached.high c.requires.flat refl c.set-2.ensures in
    record {
      deep = set_size _ _ _ _ _ deep;
      high = set_size _ _ _ _ _ high;
      called = called_now _ _ _ _ _ deep formed _ _ _ _ c.image-image.ensures shallow c.requires.reached.called c.raise_called.ensures.size
          c.raise_called.ensures.each;
      entered = called_now _ _ _ _ _ high formed _ _ _ _ c.image-image.ensures flat c.requires.reached.entered c.raise_called-2.ensures.size
          c.raise_called-2.ensures.each;
      cancelled = c.raise_cancel_depths.ensures;
      gone = gone_still _ _ _ _ _ deep _ c.method.ensures _ (destructs_not c.method.result.now c.in-Cancel.is) c.requires.reached.gone;
    }

pub returns-in_default : goal.returns-in_default
returns-in_default c =
    let shallow : c.from.result ≡ c.args.extent.depth = search rules in
    let flat : c.from-2.result ≡ c.args.extent.height = search rules in
    let formed = rw c.image-image.ensures at c.methods-formed.ensures.well_formed in
    let deep = is_set _ _ _ _ _ _ c.requires.method c.requires.reached.deep c.requires.shallow refl c.set.ensures in
    let high = is_set _ _ _ _ _ _ c.requires.method c.requires.reached.high c.requires.flat refl c.set-2.ensures in
    record {
      reached = record {
        deep = set_size _ _ _ _ _ deep;
        high = set_size _ _ _ _ _ high;
        called = called_now _ _ _ _ _ deep formed _ _ _ _ c.image-image.ensures shallow c.requires.reached.called c.raise_called.ensures.size
            c.raise_called.ensures.each;
        entered = called_now _ _ _ _ _ high formed _ _ _ _ c.image-image.ensures flat c.requires.reached.entered c.raise_called-2.ensures.size
            c.raise_called-2.ensures.each;
        cancelled = cancelled_still _ _ _ _ _ deep _ c.method.ensures _ c.in_default.not-Cancel c.requires.reached.cancelled;
        gone = gone_still _ _ _ _ _ deep _ c.method.ensures _ c.in_default.not-Destruct c.requires.reached.gone;
      };
      depths = c.set.ensures;
      heights = c.set-2.ensures;
    }
