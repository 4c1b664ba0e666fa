use Rattle.std.proofs.Common.{rules}
use Rattle.aom_active_objects.proofs.active.ActiveObjects.is_active.Goals as goal

pub returns-in-Some-Active : goal.returns-in-Some-Active
returns-in-Some-Active c = search rules
