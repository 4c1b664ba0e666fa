use Rattle.std.proofs.Common.{rules}
use Rattle.aom_active_objects.proofs.active.ActiveObjects.count.Goals as goal

pub returns-clause-all : goal.returns-clause-all
returns-clause-all c = search rules

pub returns-clause-value : goal.returns-clause-value
returns-clause-value c = search rules
