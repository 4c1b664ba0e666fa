use Rattle.std.proofs.Common.{rules}
use Rattle.aom_scheduler.proofs.requests.Requests.add_server.Goals as goal

pub returns-clause-added : goal.returns-clause-added
returns-clause-added c = search rules

pub returns-clause-signals : goal.returns-clause-signals
returns-clause-signals c = search rules
