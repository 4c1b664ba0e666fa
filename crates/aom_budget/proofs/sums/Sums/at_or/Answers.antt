-- What is read of the list, or that past its end.
use Rattle.std.proofs.Common.{◌≡◌, ◌<◌, ◌≤◌, length, rules, sym, ◌∙◌}
use Rattle.aom_roles.specs.Tables.{at}
use Rattle.aom_budget.proofs.AbstractStateLemmas.{at_past}
use Rattle.aom_budget.proofs.Keeping.{at_either, read_past}
use Rattle.aom_budget.proofs.sums.Sums.at_or.Goals as goal

pub returns-then-index-len-clause-is : goal.returns-then-index-len-clause-is
returns-then-index-len-clause-is c =
    let within : c.args.index < length c.args.self.now = search rules in
    read_past _ _ _ _ _ c.self.view_is within c.index.ensures

pub returns-then-index-len-clause-low : goal.returns-then-index-len-clause-low
returns-then-index-len-clause-low c =
    let within : c.args.index < length c.args.self.now = search rules in
    let is : c.index.result.now ≡ at c.args.past c.args.self.now c.args.index = read_past _ _ _ _ _ c.self.view_is within c.index.ensures in
    rw (is ∙ at_either c.args.past 0 c.args.self.now c.args.index within, sym c.self.view_is) (c.self.invariant.each c.args.index)

pub returns-else-index-len-clause-is : goal.returns-else-index-len-clause-is
returns-else-index-len-clause-is c =
    let past : length c.args.self.now ≤ c.args.index = search rules in
    sym (at_past c.args.past c.args.self.now c.args.index past)
