-- Nothing is more than 0.
use Rattle.std.proofs.Common.{◌≡◌, ℕ, replicate, rules, sym, subst}
use Rattle.aom_budget.specs.Pricing.{AreKept}
use Rattle.aom_budget.proofs.Keeping.{zeros_only_kept}
use Rattle.aom_budget.proofs.sums.Sums.new.Goals as goal

pub invariant_of-result : goal.invariant_of-result
invariant_of-result c =
    let items : c.in_ok-numbers.numbers.items ≡ replicate {A = ℕ} c.args.count 0 = search rules in
    subst AreKept (sym items) (zeros_only_kept c.args.count)
