use Rattle.std.proofs.Common.{rules}
use Rattle.aom_scheduler.proofs.requests.Requests.status.Goals as goal

pub returns : goal.returns
returns c = search rules
