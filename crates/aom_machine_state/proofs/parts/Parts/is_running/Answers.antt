use Rattle.std.proofs.Common.{rules}
use Rattle.aom_machine_state.proofs.parts.Parts.is_running.Goals as goal

pub returns-in_default : goal.returns-in_default
returns-in_default c = search rules
