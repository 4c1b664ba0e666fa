use Rattle.std.proofs.Common.{rules}
use Rattle.aom_cells.proofs.messages.Messages.create.Goals as goal

pub returns-clause-added : goal.returns-clause-added
returns-clause-added c = search rules
