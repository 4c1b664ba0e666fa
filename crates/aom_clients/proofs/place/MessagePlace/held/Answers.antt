use Rattle.std.proofs.Common.{rules}
use Rattle.aom_clients.proofs.place.MessagePlace.held.Goals as goal

pub returns-in-Queued : goal.returns-in-Queued
returns-in-Queued c = search rules
