use Rattle.std.proofs.Common.{sym, ◌∙◌, rules}
use Rattle.aom_active_objects.proofs.Lists.{nothing_stops}
use Rattle.aom_active_objects.proofs.parts.stop_timer.Goals as goal

pub returns-else-is_set : goal.returns-else-is_set
returns-else-is_set c = nothing_stops c.args.timers.now c.args.id (sym c.is_set.ensures ∙ c.if-is_set.false)

pub returns-then-is_set : goal.returns-then-is_set
returns-then-is_set c = search rules
