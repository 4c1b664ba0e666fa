use Rattle.std.proofs.Common.{rules}
use Rattle.aom_machine_state.proofs.parts.Parts.release.Goals as goal

pub returns-clause-count : goal.returns-clause-count
returns-clause-count c = search rules

pub returns-clause-gone : goal.returns-clause-gone
returns-clause-gone c = search rules
