use Rattle.std.proofs.Common.{rules}
use Rattle.aom_machine_instructions.proofs.calls.end_cancel.Goals as goal

pub returns-in-Cancel-clause-ended : goal.returns-in-Cancel-clause-ended
returns-in-Cancel-clause-ended c = search rules
