use Rattle.std.proofs.Common.{rules}
use Rattle.aom_rule_functions.proofs.messages.rule_take_message.Goals as goal

pub returns : goal.returns
returns c = search rules
