use Rattle.std.proofs.Common.{rules}
use Rattle.aom_rule_context.proofs.AbstractStateLemmas.{role_there}
use Rattle.aom_rule_context.proofs.site.RuleContext.needs_still.Goals as goal

pub returns : goal.returns
returns c = search (rules, role_there)
