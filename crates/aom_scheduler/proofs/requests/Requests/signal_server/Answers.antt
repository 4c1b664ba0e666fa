use Rattle.std.proofs.Common.{rules}
use Rattle.aom_scheduler.proofs.requests.Requests.signal_server.Goals as goal

pub returns-clause-signalled : goal.returns-clause-signalled
returns-clause-signalled c = search rules

pub returns-clause-signals : goal.returns-clause-signals
returns-clause-signals c = search rules
