use Rattle.aom_asm_semantics.proofs.Methods.{heading_reads_back}
use Rattle.aom_asm_semantics.proofs.laws.headings_read_back.Goals as goal

pub returns : goal.returns
returns c = heading_reads_back
