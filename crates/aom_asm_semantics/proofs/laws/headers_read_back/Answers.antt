use Rattle.aom_asm_semantics.proofs.HeadersBack.{header_reads}
use Rattle.aom_asm_semantics.proofs.laws.headers_read_back.Goals as goal

pub returns : goal.returns
returns c classes methods scope names = header_reads names
