-- What was not told yet is told; there is no text.
use Rattle.std.proofs.Common.{refl}
use Rattle.aom_debug.proofs.debugging.debug_bytes.Goals as goal

pub returns-in-Ok : goal.returns-in-Ok
returns-in-Ok g c = (rw c.none.ensures at c.in-Ok.ensures) _ refl

pub returns-in-Err : goal.returns-in-Err
returns-in-Err g c = (rw c.none.ensures at c.in-Err.ensures) _ c.report.result c.report.ensures
