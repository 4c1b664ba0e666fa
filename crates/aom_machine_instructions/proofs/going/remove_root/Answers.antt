use Rattle.std.proofs.Common.{rules}
use Rattle.aom_machine_instructions.proofs.going.remove_root.Goals as goal

pub returns : goal.returns
returns c = search rules
