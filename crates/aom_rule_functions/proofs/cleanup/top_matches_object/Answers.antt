use Rattle.std.proofs.Common.{rules}
use Rattle.aom_rule_functions.proofs.cleanup.top_matches_object.Goals as goal

pub returns-in-Some : goal.returns-in-Some
returns-in-Some c = search rules
