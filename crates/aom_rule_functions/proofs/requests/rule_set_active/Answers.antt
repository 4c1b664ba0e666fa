use Rattle.std.proofs.Common.{rules}
use Rattle.aom_rule_functions.proofs.requests.rule_set_active.Goals as goal

pub returns : goal.returns
returns c = search rules
