-- What is asked is as found; lines are asked for only where they can be told, and a text where it is of use.
use Rattle.std.proofs.Common.{refl}
use Rattle.std.proofs.lemmas.Result.{err_from_is_err_and}
use Rattle.aom_command_line.proofs.Checking.{checks_no_text}
use Rattle.aom_command_line.proofs.words.check_words.Goals as goal

pub returns-clause-asks : goal.returns-clause-asks
returns-clause-asks c =
    (refl, c.in_ok-word_of.ensures, c.in_ok-kind.ensures.asks, c.is_set-prices.ensures, c.is_set-explain.ensures, c.in_ok-fit_lines.ensures.asks, c.is_set-all.ensures, c.in_ok-fit_warnings.ensures.asks, c.in_ok-text_of.ensures.asks)

pub returns-in_err-text_of-clause-declines : goal.returns-in_err-text_of-clause-declines
returns-in_err-text_of-clause-declines c =
    let e = err_from_is_err_and c.from_residual-in_err-text_of.result c.from_residual-in_err-text_of.ensures.1 in
    rw (e.1, e.2) (checks_no_text _ _ _ _ _ c.is_set-explain.ensures c.is_set-lines.ensures c.is_set-prices.ensures c.in_err-text_of.ensures.declines)
