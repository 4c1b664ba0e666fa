-- The names are those of the text that is there, where they are asked for.
use Rattle.std.proofs.Common.{◌≡◌, Some, sym}
use Rattle.aom_diagnostic_commands.proofs.naming.try_run_told.Goals as goal

pub returns-then-not-names : goal.returns-then-not-names
returns-then-not-names g c = rw c.if-not-names.true (rw c.image.ensures at c.try_run.ensures)

pub returns-in-Some : goal.returns-in-Some
returns-in-Some g c =
    let there : c.args.program.now.text ≡ Some c.in-Some.text.now = sym (rw c.in-Some.is at c.text.ensures) in
    rw (there, c.if-not-names.false) (rw c.image-in-Some.ensures at c.try_run_by_names.ensures)

pub returns-in-None : goal.returns-in-None
returns-in-None g c =
    let none = sym (rw c.in-None.is at c.text.ensures) in
    rw (none, c.if-not-names.false) (rw c.image-in-None.ensures at c.try_run-in-None.ensures)
