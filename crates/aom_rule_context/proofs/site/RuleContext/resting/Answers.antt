use Rattle.std.proofs.Common.{rules}
use Rattle.aom_rule_context.proofs.AbstractStateLemmas.{class_there}
use Rattle.aom_rule_context.proofs.site.RuleContext.resting.Goals as goal

pub returns : goal.returns
returns c = search (rules, class_there)
