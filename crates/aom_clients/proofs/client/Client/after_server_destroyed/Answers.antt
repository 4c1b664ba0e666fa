use Rattle.std.proofs.Common.{rules}
use Rattle.aom_clients.proofs.client.Client.after_server_destroyed.Goals as goal

pub returns-in-Open : goal.returns-in-Open
returns-in-Open c = search rules
