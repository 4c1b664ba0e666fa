use Rattle.aom_syntax.proofs.RangedInstructions.{instruction_within}
use Rattle.aom_syntax.proofs.laws.instructions_in_range.Goals as goal

pub returns : goal.returns
returns c scope version strict labels place = (instruction_within scope version strict labels place).each
