-- The commands are added in turn.
use Rattle.std.proofs.lemmas.Result.{IfOk-weaker}
use Rattle.aom_command_line.specs.CommandLine.{check_form, debug_form, explore_form, run_form}
use Rattle.aom_command_line.proofs.Reading.{has_form, next_form}
use Rattle.aom_command_line.proofs.forms.with_uses.Goals as goal

pub returns : goal.returns
returns c =
    let one = IfOk-weaker c.with_command-command.result _ _ (λ r adds. has_form _ check_form _ r adds c.check_command.ensures) c.with_command-command.ensures in
    let two = next_form run_form _ _ _ _ c.with_made-command.ensures c.run_command.ensures one in
    let three = next_form explore_form _ _ _ _ c.with_made-command-2.ensures c.explore_command.ensures two in
    next_form debug_form _ _ _ _ c.with_made.ensures c.debug_command.ensures three
