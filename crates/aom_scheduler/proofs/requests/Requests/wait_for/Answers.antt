use Rattle.std.proofs.Common.{rules}
use Rattle.aom_scheduler.proofs.requests.Requests.wait_for.Goals as goal

pub returns-clause-signals : goal.returns-clause-signals
returns-clause-signals c = search rules

pub returns-clause-taken : goal.returns-clause-taken
returns-clause-taken c = search rules
