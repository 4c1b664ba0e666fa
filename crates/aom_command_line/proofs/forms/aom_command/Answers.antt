-- The form is made of the commands in turn.
use Rattle.std.proofs.Common.{rules, ◌≡◌, ◌∙◌, ap}
use Rattle.std.proofs.lemmas.Result.{IfOk-weaker}
use Rattle.clap.specs.Words.{App, app_of, with_subcommand}
use Rattle.aom_command_line.specs.CommandLine.{bare_form, check_form, run_form, explore_form, debug_form}
use Rattle.aom_command_line.proofs.forms.aom_command.Goals as goal

abbrev with_two : App → App → App → App
with_two to first second = with_subcommand (with_subcommand to first.top) second.top

pub returns : goal.returns
returns c =
    let bare : app_of c.subcommand_required-command.result ≡ bare_form = search rules in
    let uses = IfOk-weaker c.with_uses.result _ (λ u. app_of u ≡ with_two (with_two bare_form check_form run_form) explore_form debug_form)
    (λ u made. made ∙ ap (λ a. with_two (with_two a check_form run_form) explore_form debug_form) bare) c.with_uses.ensures in
    c.with_translations.ensures _ uses
