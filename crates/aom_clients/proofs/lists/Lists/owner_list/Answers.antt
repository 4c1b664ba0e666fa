use Rattle.std.proofs.Common.{rules}
use Rattle.aom_clients.proofs.lists.Lists.owner_list.Goals as goal

pub returns-clause-within : goal.returns-clause-within
returns-clause-within c = search rules
