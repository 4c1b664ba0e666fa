use Rattle.std.proofs.Common.{rules}
use Rattle.aom_machine.proofs.clients.act.Goals as goal

pub returns-in-Die : goal.returns-in-Die
returns-in-Die c = search rules
