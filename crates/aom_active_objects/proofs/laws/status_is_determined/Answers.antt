use Rattle.aom_active_objects.proofs.Reporting.{status_is_determined}
use Rattle.aom_active_objects.proofs.laws.status_is_determined.Goals as goal

pub returns : goal.returns
returns c = status_is_determined
