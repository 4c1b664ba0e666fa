use Rattle.std.proofs.Common.{ap, ◌∙◌}
use Rattle.std.specs.Prelude.{is_some}
use Rattle.aom_scheduler.proofs.timers.Timers.is_set.Goals as goal

pub returns : goal.returns
returns c = c.is_some.ensures ∙ ap is_some c.due_time.ensures
