use Rattle.aom_scheduler.proofs.Timing.{due-of_place}
use Rattle.aom_scheduler.proofs.timers.Timers.timer.Goals as goal

pub returns-clause-due : goal.returns-clause-due
returns-clause-due c = due-of_place c.args.self.now.timers c.in_order.ensures.distinct c.args.place c.at.result c.at.ensures
