use Rattle.std.proofs.Common.{rules}
use Rattle.aom_rule_functions.proofs.natives.rule_ask.Goals as goal

pub returns : goal.returns
returns c = search rules
