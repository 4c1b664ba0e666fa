use Rattle.std.proofs.Common.{rules}
use Rattle.aom_rule_functions.proofs.objects.rule_put.Goals as goal

pub returns : goal.returns
returns c = search rules
