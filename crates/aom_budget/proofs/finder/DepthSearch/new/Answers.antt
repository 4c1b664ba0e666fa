-- Nothing is found of any method.
use Rattle.std.proofs.Common.{◌∙◌, ◌≡◌, length, rules, ℕ}
use Rattle.std.proofs.lemmas.List.{length-replicate}
use Rattle.aom_budget.proofs.FieldState.{filled_first}
use Rattle.aom_budget.proofs.Raised.{zeros_only_greatest}
use Rattle.aom_budget.proofs.finder.DepthSearch.new.Goals as goal

pub returns-clause-filled : goal.returns-clause-filled
returns-clause-filled c =
    let methods : c.len-methods.result ≡ length c.args.linked.now.methods = search rules in
    record { deep = rw c.in_ok-depths.ensures (filled_first _ _ _ _ methods); high = rw c.in_ok-heights.ensures (filled_first _ _ _ _ methods) }

pub returns-clause-reached : goal.returns-clause-reached
returns-clause-reached c =
    let methods : c.len-methods.result ≡ length c.args.linked.now.methods = search rules in
    let classes : c.len-classes.result ≡ length c.args.linked.now.classes = search rules in
    record {
      deep = rw c.in_ok-depths.ensures (length-replicate {A = ℕ} c.len-methods.result 0 ∙ methods);
      high = rw c.in_ok-heights.ensures (length-replicate {A = ℕ} c.len-methods.result 0 ∙ methods);
      called = rw (c.in_ok-depths.ensures, c.in_ok-called.ensures) (zeros_only_greatest _ c.len-methods.result _ c.len-methods.result methods);
      entered = rw (c.in_ok-heights.ensures, c.in_ok-entered.ensures) (zeros_only_greatest _ c.len-methods.result _ c.len-methods.result methods);
      cancelled = rw (c.in_ok-depths.ensures, c.in_ok-cancelled.ensures) (zeros_only_greatest _ c.len-methods.result _ c.len-classes.result classes);
      gone = rw (c.in_ok-depths.ensures, c.in_ok-gone.ensures) (zeros_only_greatest _ c.len-methods.result _ c.len-classes.result classes);
    }
