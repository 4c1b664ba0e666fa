use Rattle.std.proofs.Common.{rules}
use Rattle.aom_instructions.proofs.mnemonic.Row.opcode.Goals as goal

pub returns : goal.returns
returns c = search rules
