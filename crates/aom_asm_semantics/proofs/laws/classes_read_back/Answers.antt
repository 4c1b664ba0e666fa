use Rattle.aom_asm_semantics.proofs.ClassesBack.{class_statement_reads}
use Rattle.aom_asm_semantics.proofs.laws.classes_read_back.Goals as goal

pub returns : goal.returns
returns c = class_statement_reads
