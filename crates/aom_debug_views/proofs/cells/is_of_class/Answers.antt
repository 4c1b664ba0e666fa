use Rattle.std.proofs.Common.{rules}
use Rattle.aom_debug_views.proofs.cells.is_of_class.Goals as goal

pub returns-in-None : goal.returns-in-None
returns-in-None c = search rules
