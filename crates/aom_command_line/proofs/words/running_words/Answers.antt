-- What is asked is as found; names are asked for only where there is a text, and a text where it is of use.
use Rattle.std.proofs.Common.{◌||◌, refl, sym, subst}
use Rattle.std.proofs.lemmas.Result.{err_from_is_err_and}
use Rattle.clap.specs.Words.{found_of, rows_of}
use Rattle.aom_command_line.specs.CommandLine.{AsksNames, AsksText, AsksWarnings}
use Rattle.aom_command_line.proofs.Checking.{runs_no_text}
use Rattle.aom_command_line.proofs.words.running_words.Goals as goal

pub returns-clause-asks : goal.returns-clause-asks
returns-clause-asks c =
    let rows = rows_of (found_of c.args.own.now) in
    let same = sym c.in_ok-run_words.ensures.kind in
    let named = subst (λ kind. AsksText rows ((c.is_set-explain.result || c.is_set-names.result) || c.is_set-warn.result) kind c.in_ok-text_of.field-0) same c.in_ok-text_of.ensures.asks in (
      refl,
      c.in_ok-run_words.ensures.asks,
      c.is_set-explain.ensures,
      subst (λ kind. AsksNames rows kind c.is_set-names.result) same c.in_ok-fit_names.ensures.asks,
      subst (λ kind. AsksWarnings rows kind c.is_set-warn.result) same c.in_ok-fit_warnings.ensures.asks,
      named,
    )

pub returns-in_err-text_of-clause-declines : goal.returns-in_err-text_of-clause-declines
returns-in_err-text_of-clause-declines c =
    let e = err_from_is_err_and c.from_residual-in_err-text_of.result c.from_residual-in_err-text_of.ensures.1 in
    rw (e.1, e.2) (runs_no_text _ _ _ _ _ c.is_set-explain.ensures c.is_set-names.ensures c.is_set-warn.ensures c.in_err-text_of.ensures.declines)
