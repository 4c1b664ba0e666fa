-- Of the task that stands there.
use Rattle.std.proofs.Common.{◌∙◌, Some, None}
use Rattle.aom_debug_views.proofs.Tasks.{number_reported}
use Rattle.aom_debug_views.proofs.owners.going_number.Goals as goal

pub returns-in-Some : goal.returns-in-Some
returns-in-Some c = c.going_of.ensures ∙ number_reported c.args.parts.now c.args.depth (Some c.in-Some.task) c.in-Some.ensures

pub returns-in-None : goal.returns-in-None
returns-in-None c = number_reported c.args.parts.now c.args.depth None c.in-None.ensures
