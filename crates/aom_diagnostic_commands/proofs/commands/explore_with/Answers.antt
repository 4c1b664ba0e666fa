-- The program has no image, and that is told; or the command answers of it.
use Rattle.std.proofs.Common.{refl}
use Rattle.aom_diagnostic_commands.specs.Programs.Answers.{loaded, refused}
use Rattle.aom_diagnostic_commands.proofs.commands.explore_with.Goals as goal

pub returns-in-Ok : goal.returns-in-Ok
returns-in-Ok g c = loaded _ _ c.in-Ok.ensures.ok (rw c.image.ensures at c.explore_bytes_with.ensures)

pub returns-in-Err : goal.returns-in-Err
returns-in-Err g c = refused refl c.in-Err.fault c.in-Err.ensures.err (rw c.text.ensures at c.refuse.ensures)
