-- The command that was made is the one that is added.
use Rattle.std.proofs.Common.{IsOkAnd, sym, subst}
use Rattle.std.proofs.lemmas.Result.{IfOk-weaker}
use Rattle.clap.specs.Words.{AddsSubcommand}
use Rattle.aom_command_line.proofs.forms.with_command.Goals as goal

pub returns-in-Ok : goal.returns-in-Ok
returns-in-Ok c = IfOk-weaker c.subcommand.result _ _
    (λ r adds. subst (λ made. IsOkAnd made (λ m. AddsSubcommand c.args.command m r)) (sym c.in-Ok.is) adds) c.subcommand.ensures
