use Rattle.std.proofs.Common.{rules}
use Rattle.aom_machine_state.proofs.parts.Parts.progress.Goals as goal

pub returns-in-None : goal.returns-in-None
returns-in-None c = search rules
