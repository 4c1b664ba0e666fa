use Rattle.std.proofs.Common.{rules}
use Rattle.aom_clients.proofs.clients.Clients.closed.Goals as goal

pub returns-in-Dying : goal.returns-in-Dying
returns-in-Dying c = search rules
