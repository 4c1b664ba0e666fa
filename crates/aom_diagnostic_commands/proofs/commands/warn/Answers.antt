-- The program has no image, and that is told; or the command answers of it, and what was not told yet is told.
use Rattle.std.proofs.Common.{refl}
use Rattle.aom_diagnostic_commands.specs.Programs.Answers.{loaded, refused}
use Rattle.aom_diagnostic_commands.proofs.Told.{told}
use Rattle.aom_diagnostic_commands.proofs.commands.warn.Goals as goal

pub returns-in-Ok : goal.returns-in-Ok
returns-in-Ok g c = loaded _ _ c.in-Ok.ensures.ok (told _ _ _ _ _ _ _ _ c.try_warn-found.ensures c.answer.ensures)

pub returns-in-Err : goal.returns-in-Err
returns-in-Err g c = refused refl c.in-Err.fault c.in-Err.ensures.err (rw c.text.ensures at c.refuse.ensures)
