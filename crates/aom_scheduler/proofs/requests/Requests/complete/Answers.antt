use Rattle.std.proofs.Common.{rules}
use Rattle.aom_scheduler.proofs.requests.Requests.complete.Goals as goal

pub returns-clause-completed : goal.returns-clause-completed
returns-clause-completed c = search rules

pub returns-clause-signals : goal.returns-clause-signals
returns-clause-signals c = search rules
