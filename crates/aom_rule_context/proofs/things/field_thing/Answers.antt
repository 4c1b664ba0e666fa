use Rattle.std.proofs.Common.{rules}
use Rattle.aom_rule_context.proofs.AbstractStateLemmas.{holder_there}
use Rattle.aom_rule_context.proofs.things.field_thing.Goals as goal

pub returns : goal.returns
returns c = search (rules, holder_there)
