use Rattle.std.proofs.Common.{rules}
use Rattle.aom_rule_context.proofs.site.RuleContext.fork.Goals as goal

pub returns : goal.returns
returns c = search rules
