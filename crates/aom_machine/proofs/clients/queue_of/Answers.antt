use Rattle.std.proofs.Common.{rules}
use Rattle.aom_machine.proofs.clients.queue_of.Goals as goal

pub returns-in-None-clause-value : goal.returns-in-None-clause-value
returns-in-None-clause-value c = search rules
