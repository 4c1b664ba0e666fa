use Rattle.std.proofs.Common.{rules}
use Rattle.aom_scheduler.proofs.schedule.Schedule.set_waiting.Goals as goal

pub invariant_of-self : goal.invariant_of-self
invariant_of-self c = search rules

pub returns-in-Ok : goal.returns-in-Ok
returns-in-Ok c = search rules
