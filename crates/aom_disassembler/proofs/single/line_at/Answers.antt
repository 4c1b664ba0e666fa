use Rattle.std.proofs.lemmas.Grind.{elements}
use Rattle.std.proofs.Common.{arith}
use Rattle.aom_disassembler.proofs.single.line_at.Goals as goal

pub returns : goal.returns
returns c = grind (arith, elements)
