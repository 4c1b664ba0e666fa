use Rattle.aom_asm_semantics.proofs.WholesBack.{statements_denote as denote}
use Rattle.aom_asm_semantics.proofs.laws.statements_denote.Goals as goal

pub returns : goal.returns
returns c = denote
