-- It is found by how many lie above it.
use Rattle.std.proofs.Common.{◌∙◌}
use Rattle.aom_debug_views.proofs.Showing.{over_from_top}
use Rattle.aom_debug_views.proofs.cleanup.item_at.Goals as goal

pub returns : goal.returns
returns c = let at = rw c.len.ensures.value at c.entry.ensures in at ∙ over_from_top c.args.parts.now.entries.items c.args.height c.requires
