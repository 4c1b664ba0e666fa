-- What is asked is as found; the text is one beside an image.
use Rattle.std.proofs.Common.{refl, sym, subst, true}
use Rattle.clap.specs.Words.{found_of, rows_of}
use Rattle.aom_command_line.specs.CommandLine.{AsksText}
use Rattle.aom_command_line.proofs.words.explore_words.Goals as goal

pub returns-clause-asks : goal.returns-clause-asks
returns-clause-asks c =
    let rows = rows_of (found_of c.args.own.now) in
    let named = subst (λ kind. AsksText rows true kind c.in_ok-text_of.field-0) (sym c.in_ok-run_words.ensures.kind) c.in_ok-text_of.ensures.asks in
    (refl, c.in_ok-run_words.ensures.asks, c.tries_words.ensures, c.is_set.ensures, c.in_ok-expected.ensures.said, named)
