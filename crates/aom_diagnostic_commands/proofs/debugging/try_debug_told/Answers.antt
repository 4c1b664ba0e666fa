-- The names are those of the text that is there.
use Rattle.std.proofs.Common.{◌≡◌, Some, sym}
use Rattle.aom_diagnostic_commands.proofs.debugging.try_debug_told.Goals as goal

pub returns-in-Some : goal.returns-in-Some
returns-in-Some g c =
    let there : c.args.program.now.text ≡ Some c.in-Some.text.now = sym (rw c.in-Some.is at c.text.ensures) in
    rw there (rw c.image.ensures at c.try_debug_by_names.ensures)

pub returns-in-None : goal.returns-in-None
returns-in-None g c =
    let none = sym (rw c.in-None.is at c.text.ensures) in
    rw none (rw (c.none.ensures, c.image-in-None.ensures) at c.try_debug.ensures)
