-- The commands are added in turn.
use Rattle.aom_command_line.specs.CommandLine.{asm_form, dis_form, dot_form, compile_form, lsp_form, show_form}
use Rattle.aom_command_line.proofs.Reading.{next_form}
use Rattle.aom_command_line.proofs.forms.with_translations.Goals as goal

pub returns : goal.returns
returns c = λ to is.
    let one = next_form asm_form to _ _ _ c.with_made-command.ensures c.asm_command.ensures is in
    let two = next_form dis_form _ _ _ _ c.with_made-command-2.ensures c.dis_command.ensures one in
    let three = next_form dot_form _ _ _ _ c.with_made-command-3.ensures c.dot_command.ensures two in
    let four = next_form compile_form _ _ _ _ c.with_made-command-4.ensures c.compile_command.ensures three in
    let five = next_form show_form _ _ _ _ c.with_made-command-5.ensures c.show_command.ensures four in
    next_form lsp_form _ _ _ _ c.with_made.ensures c.lsp_command.ensures five
