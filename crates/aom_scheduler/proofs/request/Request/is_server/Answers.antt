use Rattle.std.proofs.Common.{rules}
use Rattle.aom_scheduler.proofs.request.Request.is_server.Goals as goal

pub returns-in_default : goal.returns-in_default
returns-in_default c = search rules
