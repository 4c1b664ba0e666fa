-- The files and the natives are added in turn.
use Rattle.std.proofs.Common.{rules, ◌≡◌, codes}
use Rattle.clap.specs.Words.{rule_of}
use Rattle.aom_command_line.specs.CommandLine.{file_rule}
use Rattle.aom_command_line.proofs.Rules.{next}
use Rattle.aom_command_line.proofs.forms.with_files.Goals as goal

pub returns : goal.returns
returns c = λ form bare.
    let named : rule_of c.file_arg.result ≡ file_rule (codes "SCRIPT") = search rules in
    let script = next c.file_arg.result _ _ c.with_program-command.result c.with_arg-command.result c.with_arg-command.ensures (c.with_program-command.ensures form bare)
    named c.file_arg.ensures.own in
    next c.native_arg.result _ _ c.with_arg-command.result c.with_arg.result c.with_arg.ensures script c.native_arg.ensures.rule c.native_arg.ensures.own
