-- The program has no image, and that is told; or the command answers of it, and what was not told yet is told.
use Rattle.std.proofs.Common.{refl}
use Rattle.aom_commands.specs.Headline.{over}
use Rattle.aom_diagnostic_commands.specs.Programs.Answers.{loaded, refused}
use Rattle.aom_diagnostic_commands.specs.declared.telling.Telling.TheVariants.{Plain}
use Rattle.aom_diagnostic_commands.proofs.Told.{told}
use Rattle.aom_diagnostic_commands.proofs.commands.debug.Goals as goal

pub returns-in-Ok : goal.returns-in-Ok
returns-in-Ok g c = loaded _ _ c.in-Ok.ensures.ok (told Plain c.in-Ok.loaded.image c.in-Ok.loaded.text c.args.script.now _ c.try_debug_told-found.result
    (over g.E.Sink.out g.E.Sink.failed c.args.errors.now c.answer.new.errors) c.answer.result c.try_debug_told-found.ensures c.answer.ensures)

pub returns-in-Err : goal.returns-in-Err
returns-in-Err g c = refused (refl, refl) c.in-Err.fault c.in-Err.ensures.err (rw c.text.ensures at c.refuse.ensures)
