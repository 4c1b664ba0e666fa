use Rattle.std.proofs.Common.{rules}
use Rattle.aom_clients.proofs.place.MessagePlace.closed.Goals as goal

pub returns-in-Held : goal.returns-in-Held
returns-in-Held c = search rules
