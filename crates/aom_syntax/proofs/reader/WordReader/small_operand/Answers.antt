use Rattle.std.proofs.Common.{rules}
use Rattle.aom_syntax.proofs.reader.WordReader.small_operand.Goals as goal

pub returns-in_err-last_register-in-TrapResult : goal.returns-in_err-last_register-in-TrapResult
returns-in_err-last_register-in-TrapResult c = search rules

pub returns-in_ok-last_register-in-TrapResult : goal.returns-in_ok-last_register-in-TrapResult
returns-in_ok-last_register-in-TrapResult c = search rules
