use Rattle.std.proofs.Common.{rules}
use Rattle.aom_active_objects.proofs.parts.signal.Goals as goal

pub returns-else-has_signal : goal.returns-else-has_signal
returns-else-has_signal c = search rules

pub returns-then-not-is_asked : goal.returns-then-not-is_asked
returns-then-not-is_asked c = let taken = c.wait_for.ensures.taken in search rules
