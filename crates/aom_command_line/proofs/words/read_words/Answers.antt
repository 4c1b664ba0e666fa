-- What `clap` makes of the words is what its exact matches say.
use Rattle.std.proofs.Common.{◌≡◌, ◌∙◌, ap, ap₂, subst, true, IfOk, IfErr}
use Rattle.std.proofs.lemmas.Result.{IfErr-weaker, err_from_is_err_and}
use Rattle.clap.specs.Words.{is_simple, kind_of, subcommand_of, subcommand_rows_of, takes}
use Rattle.aom_command_line.specs.CommandLine.{form, texts_of, Asks, Declines}
use Rattle.aom_command_line.proofs.Reading.{simple, declines, says}
use Rattle.aom_command_line.proofs.words.read_words.Goals as goal

pub returns-in-Ok-clause-asks : goal.returns-in-Ok-clause-asks
returns-in-Ok-clause-asks c =
    let exact = c.in-Ok.ensures.matches (ap is_simple c.in_ok-command.ensures ∙ simple) in
    let met : subcommand_rows_of c.in-Ok.matches ≡ subcommand_of form (texts_of c.args.words.items) =
    exact.1 ∙ ap₂ subcommand_of c.in_ok-command.ensures (ap texts_of c.as_slice.ensures.value) in
    subst (λ m. IfOk c.words_of-asked.result (λ asked. Asks m asked)) met c.words_of-asked.ensures.asks

pub returns-in-Ok-clause-declines : goal.returns-in-Ok-clause-declines
returns-in-Ok-clause-declines c =
    let exact = c.in-Ok.ensures.matches (ap is_simple c.in_ok-command.ensures ∙ simple) in
    let met : subcommand_rows_of c.in-Ok.matches ≡ subcommand_of form (texts_of c.args.words.items) =
    exact.1 ∙ ap₂ subcommand_of c.in_ok-command.ensures (ap texts_of c.as_slice.ensures.value) in
    let with_met = subst (λ m. IfErr c.words_of-asked.result (λ fault. Declines true m fault)) met c.words_of-asked.ensures.declines in
    IfErr-weaker c.words_of-asked.result _ _
    (λ fault d. declines (takes form (texts_of c.args.words.items)) (subcommand_of form (texts_of c.args.words.items)) fault d) with_met

pub returns-clause-declines : goal.returns-clause-declines
returns-clause-declines c =
    says (takes form (texts_of c.args.words.items)) (subcommand_of form (texts_of c.args.words.items)) (kind_of c.in-Err.error) c.refusal_of-refusal.result
    c.refusal_of-refusal.ensures (λ taken. c.in-Err.ensures.passes (ap₂ takes c.in_ok-command.ensures (ap texts_of c.as_slice.ensures.value) ∙ taken))

pub returns-clause-asks : goal.returns-clause-asks
returns-clause-asks c = tt

pub returns-clause-limit : goal.returns-clause-limit
returns-clause-limit c = tt

-- ---- where memory is wanting

pub returns-in_err-command-clause-asks : goal.returns-in_err-command-clause-asks
returns-in_err-command-clause-asks c = let error = err_from_is_err_and c.from_residual.result c.from_residual.ensures.1 in rw error.1 tt

pub returns-in_err-command-clause-declines : goal.returns-in_err-command-clause-declines
returns-in_err-command-clause-declines c = let error = err_from_is_err_and c.from_residual.result c.from_residual.ensures.1 in rw (error.1, error.2) tt

pub returns-in_err-command-clause-limit : goal.returns-in_err-command-clause-limit
returns-in_err-command-clause-limit c = let error = err_from_is_err_and c.from_residual.result c.from_residual.ensures.1 in rw error.1 tt
