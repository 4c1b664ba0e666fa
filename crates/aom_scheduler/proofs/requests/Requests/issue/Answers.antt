use Rattle.std.proofs.Common.{rules}
use Rattle.aom_scheduler.proofs.requests.Requests.issue.Goals as goal

pub returns-clause-issued : goal.returns-clause-issued
returns-clause-issued c = search rules

pub returns-clause-signals : goal.returns-clause-signals
returns-clause-signals c = search rules
