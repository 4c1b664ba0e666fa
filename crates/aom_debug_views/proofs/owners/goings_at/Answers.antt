-- Of the task that stands there.
use Rattle.std.proofs.Common.{◌∙◌, Some, None}
use Rattle.aom_debug_views.proofs.Tasks.{goings_reported}
use Rattle.aom_debug_views.proofs.owners.goings_at.Goals as goal

pub returns-in-Some-clause-value : goal.returns-in-Some-clause-value
returns-in-Some-clause-value c = λ p s st. c.goings_in.ensures ∙ goings_reported p c.args.parts.now s st c.args.depth (Some c.in-Some.task) c.in-Some.ensures

pub returns-in-None-clause-value : goal.returns-in-None-clause-value
returns-in-None-clause-value c = λ p s st. goings_reported p c.args.parts.now s st c.args.depth None c.in-None.ensures
