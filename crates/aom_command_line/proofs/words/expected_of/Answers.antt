-- The words are those that were found; where none were, nothing is expected.
use Rattle.std.proofs.Common.{IfErr, IfOk, codes, subst}
use Rattle.clap.specs.Words.{found_of}
use Rattle.aom_command_line.specs.CommandLine.{DeclinesEndings, SaysEndings}
use Rattle.aom_command_line.proofs.Reading.{found_words, no_words, none_expected}
use Rattle.aom_command_line.proofs.words.expected_of.Goals as goal

pub returns-in_default-clause-said : goal.returns-in_default-clause-said
returns-in_default-clause-said c = none_expected _ c.new.result.items (no_words (found_of c.args.own.now) (codes "expect") c.in_default.ensures) c.new.ensures.items

pub returns-clause-said : goal.returns-clause-said
returns-clause-said c = subst (λ w. IfOk c.endings_of.result (λ expected. SaysEndings w expected.items))
    (found_words (found_of c.args.own.now) (codes "expect") c.in-Some.words.now c.in-Some.ensures) c.endings_of.ensures.said

pub returns-clause-declines : goal.returns-clause-declines
returns-clause-declines c = subst (λ w. IfErr c.endings_of.result (λ fault. DeclinesEndings w fault))
    (found_words (found_of c.args.own.now) (codes "expect") c.in-Some.words.now c.in-Some.ensures) c.endings_of.ensures.declines
