use Rattle.aom_typing_rules.proofs.Monotone.{needs_more, flows_more}
use Rattle.aom_typing_rules.proofs.laws.rules_are_monotone.Goals as goal

pub returns : goal.returns
returns c = record { needs = needs_more; flows = flows_more }
