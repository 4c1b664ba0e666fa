use Rattle.std.proofs.Common.{rules}
use Rattle.aom_machine_state.proofs.parts.Parts.cell.Goals as goal

pub living-requires : goal.living-requires
living-requires c = search rules

pub returns : goal.returns
returns c = search rules
