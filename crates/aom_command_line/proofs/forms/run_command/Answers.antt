-- The form is made of the arguments in turn.
use Rattle.std.proofs.Common.{rules, codes}
use Rattle.clap.specs.Words.{new_app}
use Rattle.aom_command_line.specs.CommandLine.{HasForm}
use Rattle.aom_command_line.proofs.Rules.{first, next}
use Rattle.aom_command_line.proofs.forms.run_command.Goals as goal

pub returns : goal.returns
returns c =
    let bare : HasForm (new_app (codes "run")) c.about.result = record { shape = search rules; own = search rules } in
    let limit = first c.limit_arg.result _ _ c.arg-command.result c.arg-command.ensures bare c.limit_arg.ensures.rule c.limit_arg.ensures.own in
    let explain = next c.explain_arg.result _ _ c.arg-command.result c.with_arg-command.result c.with_arg-command.ensures limit c.explain_arg.ensures.rule
    c.explain_arg.ensures.own in
    let names = next c.names_arg.result _ _ c.with_arg-command.result c.with_arg-command-2.result c.with_arg-command-2.ensures explain c.names_arg.ensures.rule
    c.names_arg.ensures.own in
    let warn = next c.warn_arg.result _ _ c.with_arg-command-2.result c.with_arg-command-3.result c.with_arg-command-3.ensures names c.warn_arg.ensures.rule
    c.warn_arg.ensures.own in
    let text = next c.text_arg.result _ _ c.with_arg-command-3.result c.with_arg-command-4.result c.with_arg-command-4.ensures warn c.text_arg.ensures.rule
    c.text_arg.ensures.own in
    c.with_files.ensures _ text
