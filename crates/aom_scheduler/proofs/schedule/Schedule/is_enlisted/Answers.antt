use Rattle.std.proofs.Common.{ap, ◌∙◌}
use Rattle.std.specs.Prelude.{is_some}
use Rattle.aom_scheduler.specs.PriorityList.{place}
use Rattle.aom_scheduler.proofs.schedule.Schedule.is_enlisted.Goals as goal

pub returns : goal.returns
returns c = c.is_some.ensures ∙ ap is_some (c.place.ensures ∙ ap (place c.args.id) c.self.view_is)
