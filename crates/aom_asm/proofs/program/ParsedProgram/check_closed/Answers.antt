-- A program with methods, and none of them open, is closed.
use Rattle.std.proofs.Common.{rules}
use Rattle.aom_asm.proofs.program.ParsedProgram.check_closed.Goals as goal

pub returns-else-is_empty : goal.returns-else-is_empty
returns-else-is_empty c = search rules
