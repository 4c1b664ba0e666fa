use Rattle.std.proofs.Common.{rules}
use Rattle.aom_active_objects.proofs.parts.abort_request.Goals as goal

pub cancelled-requires-clause-completed : goal.cancelled-requires-clause-completed
cancelled-requires-clause-completed c = search rules

pub complete-requires : goal.complete-requires
complete-requires c = search rules

pub returns-else-eq : goal.returns-else-eq
returns-else-eq c = search rules

pub returns-then-eq : goal.returns-then-eq
returns-then-eq c = search rules
