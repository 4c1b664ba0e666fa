-- An item is told as the one that stands there in each state.
use Rattle.std.proofs.Common.{◌∙◌, Some, None}
use Rattle.aom_debug_views.proofs.Showing.{item_reported}
use Rattle.aom_debug_views.proofs.cleanup.item_answer.Goals as goal

pub returns-in-Some : goal.returns-in-Some
returns-in-Some c = λ p s st. c.reported_item.ensures ∙ item_reported p c.args.parts.now s st c.args.height (Some c.in-Some.item) c.in-Some.ensures

pub returns-in-None : goal.returns-in-None
returns-in-None c = λ p s st. item_reported p c.args.parts.now s st c.args.height None c.in-None.ensures
