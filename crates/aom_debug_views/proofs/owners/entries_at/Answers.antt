-- Of the item that stands there.
use Rattle.std.proofs.Common.{◌∙◌, Some, None}
use Rattle.aom_debug_views.proofs.Showing.{entries_reported}
use Rattle.aom_debug_views.proofs.owners.entries_at.Goals as goal

pub returns-in-Some-clause-value : goal.returns-in-Some-clause-value
returns-in-Some-clause-value c = λ p s st. c.entries_of.ensures ∙ entries_reported p c.args.parts.now s st c.args.height (Some c.in-Some.item) c.in-Some.ensures

pub returns-in-None-clause-value : goal.returns-in-None-clause-value
returns-in-None-clause-value c = λ p s st. entries_reported p c.args.parts.now s st c.args.height None c.in-None.ensures
