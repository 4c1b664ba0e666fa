use Rattle.aom_asm_semantics.proofs.Statements.{instruction_reads}
use Rattle.aom_asm_semantics.proofs.laws.instructions_read_back.Goals as goal

pub returns : goal.returns
returns c classes methods scope names version code place i few within there fits = instruction_reads names version code few place i within there fits
