use Rattle.std.proofs.Common.{rules}
use Rattle.aom_active_objects.proofs.active.ActiveObjects.state.Goals as goal

pub returns-then-not-is_server : goal.returns-then-not-is_server
returns-then-not-is_server c = search rules
