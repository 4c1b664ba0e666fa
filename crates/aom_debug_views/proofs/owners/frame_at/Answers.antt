-- Of the task that stands there.
use Rattle.std.proofs.Common.{◌∙◌, ap}
use Rattle.aom_debug_views.specs.Owners.{frame_over}
use Rattle.aom_debug_views.proofs.Tasks.{over_from_bottom}
use Rattle.aom_debug_views.proofs.owners.frame_at.Goals as goal

pub returns-in-Some : goal.returns-in-Some
returns-in-Some c = c.frame_in.ensures ∙ ap frame_over (c.in-Some.ensures ∙ over_from_bottom c.args.parts.now.stack.tasks c.args.depth)

pub returns-in-None : goal.returns-in-None
returns-in-None c = ap frame_over (c.in-None.ensures ∙ over_from_bottom c.args.parts.now.stack.tasks c.args.depth)
