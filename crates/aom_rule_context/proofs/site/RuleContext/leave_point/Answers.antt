use Rattle.std.proofs.Common.{rules}
use Rattle.aom_rule_context.proofs.site.RuleContext.leave_point.Goals as goal

pub returns : goal.returns
returns c = search rules
