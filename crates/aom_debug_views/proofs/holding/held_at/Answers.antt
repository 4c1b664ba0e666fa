-- What has the number of a place is what the place holds.
use Rattle.aom_debug_views.proofs.Numbers.{holds_so}
use Rattle.aom_debug_views.proofs.holding.held_at.Goals as goal

pub returns : goal.returns
returns c = holds_so c.args.accepted.now c.args.parts.now c.number_at.result _ c.holding_of.result c.number_at.ensures c.holding_of.ensures
