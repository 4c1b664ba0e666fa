use Rattle.std.proofs.Common.{rules}
use Rattle.aom_scheduler.proofs.timers.Timers.next_due.Goals as goal

pub returns : goal.returns
returns c = search rules
