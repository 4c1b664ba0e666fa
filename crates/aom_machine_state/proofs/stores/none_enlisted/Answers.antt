use Rattle.std.proofs.Common.{None}
use Rattle.aom_machine_state.proofs.stores.none_enlisted.Goals as goal

pub returns-clause-requests : goal.returns-clause-requests
returns-clause-requests c = c.with_limit.ensures.stands (λ n. None)
