-- The word is wrong, or a byte more is behind.
use Rattle.std.proofs.Common.{◌∙◌, ◌+◌, ◌<◌, arith, sym}
use Rattle.std.proofs.lemmas.Bool.{false≢true}
use Rattle.aom_diagnostic_commands.proofs.Searching.{found, gone_on, start_of}
use Rattle.aom_diagnostic_commands.proofs.wrong.wrong_end.Goals as goal
use Rattle.aom_diagnostic_commands.proofs.wrong.wrong_end.Goals.{else-ends_word-via-then-ends_word+in_ok-is_refused_by+else-branch, else-ends_word-via-else-ends_word}

pub returns-then-branch : goal.returns-then-branch
returns-then-branch c =
    let so_far = c.loop-end.invariant.1 in
    let near : c.loop-end.end < start_of c.args.text.now c.args.fault + 200 =
    omega (arith, c.if-end-start-lt-MAX_SHOWN.true, c.loop-end.invariant.0, so_far.from) in
    found c.args.text.now c.args.fault c.loop-end.end so_far c.loop-end-test.true near (λ feed. c.if-byte_at-ne10.true (c.byte_at.ensures ∙ feed))
    (sym c.ends_word.ensures ∙ c.if-ends_word.true) (c.in_ok-is_refused_by.ensures.0 c.if-branch.true)

pub loop-end-preserved : goal.loop-end-preserved
loop-end-preserved c =
    let so_far = c.loop-end.invariant.1 in
    let near : c.loop-end.end < start_of c.args.text.now c.args.fault + 200 =
    omega (arith, c.if-end-start-lt-MAX_SHOWN.true, c.loop-end.invariant.0, so_far.from) in (
      c.loop-end.invariant.0,
      gone_on c.args.text.now c.args.fault c.loop-end.end so_far c.loop-end-test.true near (λ feed. c.if-byte_at-ne10.true
          (c.byte_at.ensures ∙ feed)) (λ ends so. elim c.else-ends_word.branch [
            | else-ends_word-via-then-ends_word+in_ok-is_refused_by+else-branch w ↦ false≢true (sym w.if-branch.false ∙ w.in_ok-is_refused_by.ensures.1 so)
            | else-ends_word-via-else-ends_word w ↦ false≢true (sym w.if-ends_word.false ∙ c.ends_word.ensures ∙ ends)
          ]),
    )
