use Rattle.aom_instructions.proofs.Again.{sorts_name_operands}
use Rattle.aom_instructions.proofs.laws.sorts_name_operands.Goals as goal

pub returns : goal.returns
returns c = sorts_name_operands
