-- What the file is and the file are added in turn.
use Rattle.std.proofs.Common.{rules, ◌≡◌, codes}
use Rattle.clap.specs.Words.{rule_of}
use Rattle.aom_command_line.specs.CommandLine.{file_rule}
use Rattle.aom_command_line.proofs.Rules.{next}
use Rattle.aom_command_line.proofs.forms.with_program.Goals as goal

pub returns : goal.returns
returns c = λ form bare.
    let named : rule_of c.file_arg.result ≡ file_rule (codes "IMAGE") = search rules in
    let assembled = next c.asm_arg.result _ _ c.args.command c.with_arg-command.result c.with_arg-command.ensures bare c.asm_arg.ensures.rule
    c.asm_arg.ensures.own in
    let sourced = next c.source_arg.result _ _ c.with_arg-command.result c.with_arg-command-2.result c.with_arg-command-2.ensures assembled c.source_arg.ensures.rule
    c.source_arg.ensures.own in
    next c.file_arg.result _ _ c.with_arg-command-2.result c.with_arg.result c.with_arg.ensures sourced named c.file_arg.ensures.own
