-- What is set is the greater.
use Rattle.std.proofs.Common.{◌≡◌, ◌<◌, ◌∙◌, ap, length, rules}
use Rattle.std.specs.Prelude.{max}
use Rattle.aom_roles.specs.Tables.{at}
use Rattle.aom_budget.proofs.Keeping.{raised_set}
use Rattle.aom_budget.proofs.sums.Sums.raise.Goals as goal

pub returns-then-index-len-clause-each : goal.returns-then-index-len-clause-each
returns-then-index-len-clause-each c = λ k lt.
    let within : c.args.index < length c.args.self.now = search rules in
    let is : c.max.result ≡ max (at 0 c.args.self.now c.args.index) c.args.sum = search rules in
    ap (λ xs. at 0 xs k) c.set.ensures ∙ raised_set _ _ _ _ k within is
