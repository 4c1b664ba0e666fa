use Rattle.std.proofs.Common.{rules}
use Rattle.aom_machine_instructions.proofs.messages.completion_line.Goals as goal

pub returns-else-completion : goal.returns-else-completion
returns-else-completion c = search rules
