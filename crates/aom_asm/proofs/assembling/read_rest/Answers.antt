use Rattle.std.proofs.Common.{rules}
use Rattle.aom_asm.proofs.assembling.read_rest.Goals as goal

pub returns-in_err-at_line : goal.returns-in_err-at_line
returns-in_err-at_line c = search rules
