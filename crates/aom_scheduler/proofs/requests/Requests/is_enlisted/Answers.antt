use Rattle.std.proofs.Common.{rules}
use Rattle.aom_scheduler.proofs.requests.Requests.is_enlisted.Goals as goal

pub returns-clause-enlisted : goal.returns-clause-enlisted
returns-clause-enlisted c = search rules

pub returns-clause-within : goal.returns-clause-within
returns-clause-within c = search rules
