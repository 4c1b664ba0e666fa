use Rattle.aom_asm_semantics.proofs.Numbers.{number_of_decimal}
use Rattle.aom_asm_semantics.proofs.laws.numbers_read_back.Goals as goal

pub returns : goal.returns
returns c = number_of_decimal
