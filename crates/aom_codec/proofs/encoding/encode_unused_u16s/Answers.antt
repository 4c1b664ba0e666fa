use Rattle.std.proofs.Common.{◌∙◌, sym, ap, ◌++◌, append_assoc}
use Rattle.aom_codec.specs.Serialization.{next_u16, unused_pairs}
use Rattle.aom_codec.proofs.Serialized.{unused_pairs-more}
use Rattle.aom_codec.proofs.encoding.encode_unused_u16s.Goals as goal

pub loop-preserved : goal.loop-preserved
loop-preserved c = c.in_ok-encode_u16.ensures ∙ ap (λ t. t ++ next_u16 0) c.loop.invariant ∙ append_assoc c.args.out.now.items (unused_pairs c.loop.counter) (next_u16 0)
    ∙ ap (λ t. c.args.out.now.items ++ t) (sym (unused_pairs-more c.loop.counter))
