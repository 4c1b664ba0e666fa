-- Each table has one method more.
use Rattle.aom_budget.proofs.StaticBoundsLemmas.{method_within}
use Rattle.aom_budget.proofs.FieldState.{filled_more}
use Rattle.aom_budget.proofs.finder.DepthSearch.find.Goals as goal

pub returns-clause-filled : goal.returns-clause-filled
returns-clause-filled c =
    let within = method_within _ _ c.requires.method in
    record {
      deep = rw c.set.ensures.depths (filled_more _ _ _ _ _ _ c.requires.filled.deep within (rw c.linked-linked.ensures at c.of_method-extent.ensures.depth));
      high = rw c.set.ensures.heights (filled_more _ _ _ _ _ _ c.requires.filled.high within (rw c.linked-linked.ensures at c.of_method-extent.ensures.height));
    }
