use Rattle.std.proofs.Common.{rules}
use Rattle.aom_clients.proofs.parts.abandon_connect.Goals as goal

pub returns-in-Connect : goal.returns-in-Connect
returns-in-Connect c = search rules
