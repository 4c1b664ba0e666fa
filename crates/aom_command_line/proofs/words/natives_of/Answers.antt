-- The words are those that were found; where none were, there are no natives.
use Rattle.std.proofs.Common.{IfErr, IfOk, codes, subst}
use Rattle.clap.specs.Words.{found_of}
use Rattle.aom_command_line.specs.CommandLine.{DeclinesNatives, NamesKinds, NamesNoKinds}
use Rattle.aom_command_line.proofs.Reading.{found_words, no_words, none_named, too_many}
use Rattle.aom_command_line.proofs.words.natives_of.Goals as goal

pub returns-in_default-clause-named : goal.returns-in_default-clause-named
returns-in_default-clause-named c = none_named _ c.new.result.items (no_words (found_of c.args.own.now) (codes "NATIVE") c.in_default.ensures) c.new.ensures.items

pub returns-then-words-gt-MAX_NATIVES-clause-declines : goal.returns-then-words-gt-MAX_NATIVES-clause-declines
returns-then-words-gt-MAX_NATIVES-clause-declines c = subst NamesNoKinds (found_words (found_of c.args.own.now)
    (codes "NATIVE") c.in-Some.words.now c.in-Some.ensures) (too_many c.in-Some.words.now c.if-words-gt-MAX_NATIVES.true)

pub returns-clause-named : goal.returns-clause-named
returns-clause-named c = subst (λ w. IfOk c.kinds_of.result (λ kinds. NamesKinds w kinds.items))
    (found_words (found_of c.args.own.now) (codes "NATIVE") c.in-Some.words.now c.in-Some.ensures) c.kinds_of.ensures.named

pub returns-clause-declines : goal.returns-clause-declines
returns-clause-declines c = subst (λ w. IfErr c.kinds_of.result (λ fault. DeclinesNatives w fault))
    (found_words (found_of c.args.own.now) (codes "NATIVE") c.in-Some.words.now c.in-Some.ensures) c.kinds_of.ensures.declines
