-- The names are those of the text that is there, with its lines where each is told in one.
use Rattle.std.proofs.Common.{◌≡◌, Some, sym}
use Rattle.aom_diagnostic_commands.proofs.naming.try_prices_told.Goals as goal

pub returns-in-AsLine : goal.returns-in-AsLine
returns-in-AsLine g c =
    let there : c.args.program.now.text ≡ Some c.in-Some.text.now = sym (rw c.in-Some.is at c.text.ensures) in
    rw (there, c.in-AsLine.is) (rw c.image.ensures at c.try_prices_by_lines.ensures)

pub returns-in-Plain : goal.returns-in-Plain
returns-in-Plain g c =
    let there : c.args.program.now.text ≡ Some c.in-Some.text.now = sym (rw c.in-Some.is at c.text.ensures) in
    rw (there, c.in-Plain.is) (rw c.image-in-Plain.ensures at c.try_prices_by_names.ensures)

pub returns-in-Explained : goal.returns-in-Explained
returns-in-Explained g c =
    let there : c.args.program.now.text ≡ Some c.in-Some.text.now = sym (rw c.in-Some.is at c.text.ensures) in
    rw (there, c.in-Explained.is) (rw c.image-in-Explained.ensures at c.try_prices_by_names-in-Explained.ensures)

pub returns-in-None : goal.returns-in-None
returns-in-None g c =
    let none = sym (rw c.in-None.is at c.text.ensures) in
    rw none (rw (c.none.ensures, c.image-in-None.ensures) at c.try_check.ensures)
