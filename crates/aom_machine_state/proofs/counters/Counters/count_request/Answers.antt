use Rattle.std.proofs.Common.{rules}
use Rattle.aom_machine_state.proofs.counters.Counters.count_request.Goals as goal

pub returns-clause-counted : goal.returns-clause-counted
returns-clause-counted c = search rules

pub returns-clause-number : goal.returns-clause-number
returns-clause-number c = search rules
