-- Of the item that stands there.
use Rattle.std.proofs.Common.{◌∙◌, ap}
use Rattle.aom_debug_views.proofs.Showing.{entry_there, owned_over}
use Rattle.aom_debug_views.proofs.owners.item_number.Goals as goal

pub returns-in-Some : goal.returns-in-Some
returns-in-Some c = c.owned_by.ensures ∙ ap owned_over c.in-Some.ensures ∙ entry_there c.args.parts.now.entries.items c.args.height

pub returns-in-None : goal.returns-in-None
returns-in-None c = ap owned_over c.in-None.ensures ∙ entry_there c.args.parts.now.entries.items c.args.height
