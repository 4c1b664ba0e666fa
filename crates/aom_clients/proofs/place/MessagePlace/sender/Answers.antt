use Rattle.std.proofs.Common.{rules}
use Rattle.aom_clients.proofs.place.MessagePlace.sender.Goals as goal

pub returns-in-Free : goal.returns-in-Free
returns-in-Free c = search rules
