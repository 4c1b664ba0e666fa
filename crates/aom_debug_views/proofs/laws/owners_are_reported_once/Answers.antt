use Rattle.aom_debug_views.proofs.Once.{reported_once}
use Rattle.aom_debug_views.proofs.laws.owners_are_reported_once.Goals as goal

pub returns : goal.returns
returns c = reported_once
