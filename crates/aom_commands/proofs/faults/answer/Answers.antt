-- A status says nothing, and a fault is told.
use Rattle.std.proofs.Common.{refl}
use Rattle.aom_commands.proofs.faults.answer.Goals as goal

pub returns-in-Ok : goal.returns-in-Ok
returns-in-Ok g c = rw c.in-Ok.is (refl, refl)

pub returns-in-Err : goal.returns-in-Err
returns-in-Err g c = rw c.in-Err.is c.report.ensures
