use Rattle.std.proofs.Common.{rules}
use Rattle.aom_disassembler.proofs.single.heading_line.Goals as goal

pub returns : goal.returns
returns c = search rules
