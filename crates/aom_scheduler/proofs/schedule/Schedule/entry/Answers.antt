use Rattle.std.proofs.Common.{ap, ◌∙◌}
use Rattle.std.specs.Prelude.{slice_get}
use Rattle.aom_scheduler.proofs.schedule.Schedule.entry.Goals as goal

pub returns : goal.returns
returns c = c.entry.ensures ∙ ap (λ r. slice_get r.entries c.args.place) c.self.view_is
