use Rattle.std.proofs.Common.{rules}
use Rattle.aom_scheduler.proofs.schedule.Schedule.set_ready.Goals as goal

pub invariant_of-self : goal.invariant_of-self
invariant_of-self c = search rules
