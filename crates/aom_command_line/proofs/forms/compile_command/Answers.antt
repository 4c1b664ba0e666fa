-- The form is made of the arguments in turn.
use Rattle.std.proofs.Common.{rules, codes}
use Rattle.clap.specs.Words.{new_app}
use Rattle.aom_command_line.specs.CommandLine.{file_rule, HasForm}
use Rattle.aom_command_line.proofs.Rules.{first, next}
use Rattle.aom_command_line.proofs.forms.compile_command.Goals as goal

pub returns : goal.returns
returns c =
    let bare : HasForm (new_app (codes "compile")) c.about.result = record { shape = search rules; own = search rules } in
    let map = first c.map_arg.result _ _ c.arg-command.result c.arg-command.ensures bare c.map_arg.ensures.rule c.map_arg.ensures.own in
    next c.file_arg.result _ (file_rule (codes "SOURCE")) c.arg-command.result c.with_arg.result c.with_arg.ensures map (search rules) c.file_arg.ensures.own
