use Rattle.std.proofs.Common.{rules}
use Rattle.aom_debug_views.proofs.tree.next_session.Goals as goal

pub returns-clause-value : goal.returns-clause-value
returns-clause-value c = search rules
