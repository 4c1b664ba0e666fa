-- The command that was made is the one that the argument is added to.
use Rattle.std.proofs.Common.{IsOkAnd, sym, subst}
use Rattle.std.proofs.lemmas.Result.{IfOk-weaker}
use Rattle.clap.specs.Words.{AddsArg}
use Rattle.aom_command_line.proofs.forms.with_arg.Goals as goal

pub returns : goal.returns
returns c = IfOk-weaker c.arg.result _ _ (λ r adds. subst (λ made. IsOkAnd made (λ m. AddsArg m c.args.arg r)) (sym c.in_ok-command.was) adds) c.arg.ensures
