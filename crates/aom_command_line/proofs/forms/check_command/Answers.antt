-- The form is made of the arguments in turn.
use Rattle.std.proofs.Common.{rules, codes}
use Rattle.clap.specs.Words.{new_app}
use Rattle.aom_command_line.specs.CommandLine.{HasForm}
use Rattle.aom_command_line.proofs.Rules.{first, next}
use Rattle.aom_command_line.proofs.forms.check_command.Goals as goal

pub returns : goal.returns
returns c =
    let bare : HasForm (new_app (codes "check")) c.about.result = record { shape = search rules; own = search rules } in
    let prices = first c.prices_arg.result _ _ c.arg-command.result c.arg-command.ensures bare c.prices_arg.ensures.rule c.prices_arg.ensures.own in
    let explain = next c.explain_arg.result _ _ c.arg-command.result c.with_arg-command.result c.with_arg-command.ensures prices c.explain_arg.ensures.rule
    c.explain_arg.ensures.own in
    let lines = next c.lines_arg.result _ _ c.with_arg-command.result c.with_arg-command-2.result c.with_arg-command-2.ensures explain c.lines_arg.ensures.rule
    c.lines_arg.ensures.own in
    let all = next c.all_arg.result _ _ c.with_arg-command-2.result c.with_arg-command-3.result c.with_arg-command-3.ensures lines c.all_arg.ensures.rule
    c.all_arg.ensures.own in
    let warn = next c.warn_arg.result _ _ c.with_arg-command-3.result c.with_arg-command-4.result c.with_arg-command-4.ensures all c.warn_arg.ensures.rule
    c.warn_arg.ensures.own in
    let text = next c.text_arg.result _ _ c.with_arg-command-4.result c.with_arg-command-5.result c.with_arg-command-5.ensures warn c.text_arg.ensures.rule
    c.text_arg.ensures.own in
    c.with_program.ensures _ text
