use Rattle.std.proofs.Common.{arith}
use Rattle.aom_text.proofs.Parting.{words_none, word_first, word_only}
use Rattle.aom_text.proofs.word.first_word.Goals as goal

pub returns-then-start-bytes : goal.returns-then-start-bytes
returns-then-start-bytes c = words_none c.args.bytes.now _ c.leading_blanks-start.ensures.count (omega (arith, c.if-start-bytes.true))

pub returns-then-end-inked : goal.returns-then-end-inked
returns-then-end-inked c = word_only c.args.bytes.now _ _ c.leading_blanks-start.ensures.count
    (omega (arith, c.leading_blanks-start.ensures.within, c.if-start-bytes.false)) c.word_length-end.ensures.count (omega (arith, c.if-end-inked.true))

pub returns : goal.returns
returns c = word_first c.args.bytes.now _ _ c.leading_blanks-start.ensures.count (omega (arith, c.leading_blanks-start.ensures.within, c.if-start-bytes.false))
    c.word_length-end.ensures.count
