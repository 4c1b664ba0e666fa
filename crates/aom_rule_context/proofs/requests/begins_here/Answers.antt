use Rattle.std.proofs.Common.{rules}
use Rattle.aom_rule_context.proofs.AbstractStateLemmas.{before_there, class_there}
use Rattle.aom_rule_context.proofs.requests.begins_here.Goals as goal

pub returns-in-None : goal.returns-in-None
returns-in-None c = search (rules, class_there)

pub returns-in-Some : goal.returns-in-Some
returns-in-Some c = search (rules, before_there, class_there)
