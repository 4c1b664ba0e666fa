-- The first name that is the word is found.
use Rattle.std.proofs.Common.{◌∙◌, sym}
use Rattle.aom_source_scripts.proofs.Finding.{number_here, number_behind, number_nowhere}
use Rattle.aom_source_scripts.proofs.naming.number_of.Goals as goal

pub returns-then-eq : goal.returns-then-eq
returns-then-eq c =
    sym (c.loop-named.invariant ∙ number_here c.args.names.now c.args.word.now c.loop-named.named-index _ c.loop-named-test.true (sym c.eq.ensures ∙ c.if-eq.true))

pub loop-named-preserved : goal.loop-named-preserved
loop-named-preserved c =
    c.loop-named.invariant ∙ number_behind c.args.names.now c.args.word.now c.loop-named.named-index _ c.loop-named-test.true (sym c.eq.ensures ∙ c.if-eq.false)

pub returns : goal.returns
returns c = sym (c.loop-named.invariant ∙ number_nowhere c.args.names.now c.args.word.now c.loop-named.named-index c.loop-named-test.false)
