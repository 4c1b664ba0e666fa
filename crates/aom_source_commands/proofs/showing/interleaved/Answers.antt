-- Byte by byte the whole is shown.
use Rattle.std.proofs.Common.{◌≡◌, ◌∙◌, ◌++◌, ap, arith, get_or, sym}
use Rattle.aom_source_commands.specs.Showing.{line_behind}
use Rattle.aom_source_commands.proofs.Shown.{feed_behind, one_more, other_behind, shown_end}
use Rattle.aom_source_commands.proofs.showing.interleaved.Goals as goal
use Rattle.aom_source_commands.proofs.showing.interleaved.Goals.{then-byte-eq10, else-byte-eq10}

pub loop-byte-preserved : goal.loop-byte-preserved
loop-byte-preserved c = record {
  so_far = one_more c.args.notes.now c.args.source.now c.loop-byte.text.items c.add_byte.new.text.items _ c.loop-byte.line c.if-byte-eq10.line c.loop-byte.byte-index _
      c.loop-byte-test.true c.loop-byte.invariant.so_far c.in_ok-add_byte.ensures
      (elim c.if-byte-eq10.branch [ then-byte-eq10 w ↦ w.line-is ∙ feed_behind _ _ w.if-byte-eq10.true | else-byte-eq10 w ↦ w.line-is ∙ other_behind _ _ w.if-byte-eq10.false ]);
  few = elim c.if-byte-eq10.branch [
    | then-byte-eq10 w ↦ omega (arith, w.line-is, c.loop-byte.invariant.few)
    | else-byte-eq10 w ↦ omega (arith, w.line-is, c.loop-byte.invariant.few)
  ];
}

pub returns : goal.returns
returns c = (
  c.args.notes.now,
  c.facts.ensures,
  c.in_ok-extend_from_slice.ensures.items
      ∙ ap (λ t. c.loop-byte.text.items ++ t) (c.behind.ensures ∙ sym (shown_end c.args.notes.now c.args.source.now c.loop-byte.line c.loop-byte.byte-index c.loop-byte-test.false))
      ∙ c.loop-byte.invariant.so_far,
)
