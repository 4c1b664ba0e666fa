use Rattle.std.proofs.Common.{rules}
use Rattle.aom_clients.proofs.clients.Clients.close.Goals as goal

pub returns-in-None-clause-after : goal.returns-in-None-clause-after
returns-in-None-clause-after c = search rules

pub returns-in-None-clause-freed : goal.returns-in-None-clause-freed
returns-in-None-clause-freed c = search rules
