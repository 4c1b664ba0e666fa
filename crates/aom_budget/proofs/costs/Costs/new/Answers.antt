-- Nothing is found of any method, and a destruction costs its steps.
use Rattle.std.proofs.Common.{◌∙◌, ◌≡◌, ap, arith, length, rules, ℕ}
use Rattle.std.proofs.lemmas.List.{length-replicate}
use Rattle.aom_roles.specs.Tables.{at}
use Rattle.aom_budget.proofs.Keeping.{at_zeros_only}
use Rattle.aom_budget.proofs.Raised.{zeros_only_greatest}
use Rattle.aom_budget.proofs.costs.Costs.new.Goals as goal

pub raise_destroyed-requires-clause-below : goal.raise_destroyed-requires-clause-below
raise_destroyed-requires-clause-below c = λ k. let none = ap (λ xs. at 0 xs k) c.in_ok-destroyed.ensures ∙ at_zeros_only c.len-classes.result k in omega (arith, none)

pub returns-clause-costs : goal.returns-clause-costs
returns-clause-costs c =
    let methods : c.len-methods.result ≡ length c.args.linked.now.methods = search rules in
    let classes : c.len-classes.result ≡ length c.args.linked.now.classes = search rules in
    record {
      size = rw c.in_ok-prices.ensures (length-replicate {A = ℕ} c.len-methods.result 0 ∙ methods);
      called = rw (c.in_ok-prices.ensures, c.in_ok-called.ensures) (zeros_only_greatest _ c.len-methods.result _ c.len-methods.result methods);
      cancelled = rw (c.in_ok-prices.ensures, c.in_ok-cancelled.ensures) (zeros_only_greatest _ c.len-methods.result _ c.len-classes.result classes);
      destroyed = c.raise_destroyed.ensures;
    }
