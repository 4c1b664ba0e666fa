use Rattle.std.proofs.Common.{rules}
use Rattle.aom_active_objects.proofs.active.ActiveObjects.timer.Goals as goal

pub returns-clause-value : goal.returns-clause-value
returns-clause-value c = search rules

pub returns-clause-due : goal.returns-clause-due
returns-clause-due c = search rules
