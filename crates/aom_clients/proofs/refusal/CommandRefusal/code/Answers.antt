use Rattle.std.proofs.Common.{rules}
use Rattle.aom_clients.proofs.refusal.CommandRefusal.code.Goals as goal

pub returns-in-Died : goal.returns-in-Died
returns-in-Died c = search rules
