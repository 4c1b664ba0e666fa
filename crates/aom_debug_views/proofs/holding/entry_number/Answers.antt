-- Past the last item there is none.
use Rattle.std.proofs.Common.{arith}
use Rattle.aom_debug_views.proofs.Numbers.{entry_past}
use Rattle.aom_debug_views.proofs.holding.entry_number.Goals as goal

pub returns-else-height-len : goal.returns-else-height-len
returns-else-height-len c = entry_past c.args.parts.now.entries.items c.args.height (omega (arith, c.if-height-len.false, c.len.ensures))
