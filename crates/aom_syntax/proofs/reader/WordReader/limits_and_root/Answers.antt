-- The limits are read one after the other.
use Rattle.std.proofs.Common.{refl}
use Rattle.aom_syntax.proofs.reader.WordReader.limits_and_root.Goals as goal

pub returns : goal.returns
returns c = rw (c.in_ok-cells.ensures.read, c.in_ok-messages.ensures.read, c.in_ok-natives.ensures.read, c.in_ok-keyword.ensures, c.in_ok-budget.ensures.read, c.in_ok-root.ensures) refl
