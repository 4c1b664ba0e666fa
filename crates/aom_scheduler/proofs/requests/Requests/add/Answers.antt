use Rattle.std.proofs.Common.{rules}
use Rattle.aom_scheduler.proofs.requests.Requests.add.Goals as goal

pub returns-clause-added : goal.returns-clause-added
returns-clause-added c = search rules
