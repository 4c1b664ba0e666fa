use Rattle.std.proofs.Common.{rules}
use Rattle.aom_scheduler.proofs.requests.Requests.remove.Goals as goal

pub returns-clause-gone : goal.returns-clause-gone
returns-clause-gone c = search rules

pub returns-clause-signals : goal.returns-clause-signals
returns-clause-signals c = search rules
