use Rattle.std.proofs.Common.{rules}
use Rattle.aom_scheduler.proofs.request.Request.is_ready.Goals as goal

pub returns-in-Object-Active-default : goal.returns-in-Object-Active-default
returns-in-Object-Active-default c = search rules
