use Rattle.std.proofs.Common.{rules}
use Rattle.aom_instructions.proofs.mnemonic.Mnemonic.row.Goals as goal

pub returns-in-Add : goal.returns-in-Add
returns-in-Add c = search rules
