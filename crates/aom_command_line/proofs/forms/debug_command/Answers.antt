-- The form is made of the arguments in turn.
use Rattle.std.proofs.Common.{rules, codes}
use Rattle.clap.specs.Words.{new_app}
use Rattle.aom_command_line.specs.CommandLine.{HasForm}
use Rattle.aom_command_line.proofs.Rules.{first, next}
use Rattle.aom_command_line.proofs.forms.debug_command.Goals as goal

pub returns : goal.returns
returns c =
    let bare : HasForm (new_app (codes "debug")) c.about.result = record { shape = search rules; own = search rules } in
    let limit = first c.limit_arg.result _ _ c.arg-command.result c.arg-command.ensures bare c.limit_arg.ensures.rule c.limit_arg.ensures.own in
    let prompt = next c.prompt_arg.result _ _ c.arg-command.result c.with_arg-command.result c.with_arg-command.ensures limit c.prompt_arg.ensures.rule
    c.prompt_arg.ensures.own in
    let text = next c.text_arg.result _ _ c.with_arg-command.result c.with_arg-command-2.result c.with_arg-command-2.ensures prompt c.text_arg.ensures.rule
    c.text_arg.ensures.own in
    c.with_files.ensures _ text
