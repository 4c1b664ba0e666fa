use Rattle.std.proofs.Common.{rules}
use Rattle.aom_active_objects.proofs.active.ActiveObjects.status.Goals as goal

pub returns : goal.returns
returns c = search rules
