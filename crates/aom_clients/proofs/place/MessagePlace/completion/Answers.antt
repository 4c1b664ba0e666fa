use Rattle.std.proofs.Common.{rules}
use Rattle.aom_clients.proofs.place.MessagePlace.completion.Goals as goal

pub returns-in-Discarded : goal.returns-in-Discarded
returns-in-Discarded c = search rules
