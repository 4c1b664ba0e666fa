use Rattle.std.proofs.Common.{rules}
use Rattle.aom_rule_functions.proofs.words.rule_copy.Goals as goal

pub returns : goal.returns
returns c = search rules
