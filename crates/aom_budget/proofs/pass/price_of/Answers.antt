-- The pass begins past the last place, and ends at the first.
use Rattle.std.proofs.Common.{ℕ, sym, subst}
use Rattle.std.proofs.lemmas.List.{length-replicate}
use Rattle.aom_static_bounds.specs.Strongest.{IsMethodStrongest}
use Rattle.aom_budget.specs.Pricing.{Found, IsPassed}
use Rattle.aom_budget.proofs.Starting.{passing_first}
use Rattle.aom_budget.proofs.pass.price_of.Goals as goal

pub sweep-requires-clause-passing : goal.sweep-requires-clause-passing
sweep-requires-clause-passing c =
    let strongest = subst (λ q. IsMethodStrongest q c.args.method c.state_table.result.now) (sym c.linked-linked.ensures) c.state_table.ensures in
    rw (c.in_ok-pass.ensures.from, c.in_ok-pass.ensures.after, c.in_ok-pass.ensures.around, c.in_ok-pass.ensures.innermost, length-replicate {A = ℕ} c.place_count.result 0)
    (passing_first _ _ _ c.place_count.ensures _ _ strongest)

pub returns-clause-price : goal.returns-clause-price
returns-clause-price c =
    let found : Found = record { from = c.sweep.new.self.from; after = c.sweep.new.self.after } in
    let passed = subst (λ q. IsPassed q c.args.costs.now.prices c.args.method c.state_table.result.now 0 found) c.linked-linked.ensures c.sweep.ensures.passed in
    record { states = c.state_table.result.now; strongest = c.state_table.ensures; found = found; is = sym c.at.ensures.is; swept = passed.swept }
