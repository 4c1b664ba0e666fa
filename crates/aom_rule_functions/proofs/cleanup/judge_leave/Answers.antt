use Rattle.std.proofs.Common.{rules}
use Rattle.aom_rule_functions.proofs.cleanup.judge_leave.Goals as goal

pub returns : goal.returns
returns c = search rules
