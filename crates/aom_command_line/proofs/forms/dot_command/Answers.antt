-- The form is made of the arguments in turn.
use Rattle.std.proofs.Common.{rules, codes}
use Rattle.clap.specs.Words.{new_app}
use Rattle.aom_command_line.specs.CommandLine.{HasForm}
use Rattle.aom_command_line.proofs.Rules.{first}
use Rattle.aom_command_line.proofs.forms.dot_command.Goals as goal

pub returns : goal.returns
returns c =
    let bare : HasForm (new_app (codes "dot")) c.about.result = record { shape = search rules; own = search rules } in
    let text = first c.text_arg.result _ _ c.arg-command.result c.arg-command.ensures bare c.text_arg.ensures.rule c.text_arg.ensures.own in
    c.with_program.ensures _ text
