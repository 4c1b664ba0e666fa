use Rattle.std.proofs.Common.{rules}
use Rattle.aom_machine_instructions.proofs.servers.end_entry.Goals as goal

pub returns-in-Message-clause-messages : goal.returns-in-Message-clause-messages
returns-in-Message-clause-messages c = search rules
