use Rattle.std.proofs.Common.{rules}
use Rattle.aom_cells.proofs.messages.Messages.find.Goals as goal

pub returns-then-contains-clause-kept : goal.returns-then-contains-clause-kept
returns-then-contains-clause-kept c = search rules

pub returns-else-contains-clause-kept : goal.returns-else-contains-clause-kept
returns-else-contains-clause-kept c = search rules
