use Rattle.std.proofs.Common.{rules}
use Rattle.aom_scheduler.proofs.request.Request.is_pending.Goals as goal

pub returns-in-Object-Issued-default : goal.returns-in-Object-Issued-default
returns-in-Object-Issued-default c = search rules
