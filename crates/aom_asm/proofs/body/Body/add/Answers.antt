use Rattle.std.proofs.lemmas.Grind.{common_steps}
use Rattle.std.proofs.Common.{arith, rules}
use Rattle.aom_asm.proofs.body.Body.add.Goals as goal

pub returns : goal.returns
returns c = grind (arith, common_steps)

pub returns-in_err-instr : goal.returns-in_err-instr
returns-in_err-instr c = search rules
