-- What is read of the list, or 0 past its end.
use Rattle.std.proofs.Common.{◌≡◌, ◌<◌, ◌≤◌, length, rules, sym}
use Rattle.aom_budget.proofs.AbstractStateLemmas.{at_past}
use Rattle.aom_budget.proofs.FieldState.{read_at}
use Rattle.aom_budget.proofs.table.Table.of_method.Goals as goal

pub returns-then-index-len : goal.returns-then-index-len
returns-then-index-len c =
    let shown : c.self.inside.numbers.items ≡ c.args.self.now = c.self.view_is in
    let within : c.args.method < length c.args.self.now = search rules in
    read_at _ _ _ _ _ shown c.number-index.ensures.value within c.index.ensures

pub returns-else-index-len : goal.returns-else-index-len
returns-else-index-len c =
    let past : length c.args.self.now ≤ c.args.method = search rules in
    sym (at_past 0 c.args.self.now c.args.method past)
