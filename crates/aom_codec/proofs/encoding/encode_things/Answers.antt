-- Each goes behind those before it.
use Rattle.std.proofs.Common.{◌∙◌, ◌++◌, ap}
use Rattle.aom_codec.specs.Serialization.{next_u16, thing_number}
use Rattle.aom_codec.proofs.Putting.{one_more, all_put}
use Rattle.aom_codec.proofs.encoding.encode_things.Goals as goal

pub loop-thing-preserved : goal.loop-thing-preserved
loop-thing-preserved c = one_more (λ t. next_u16 (thing_number t)) _ _ _ c.thing-item.result c.loop-thing-test.true c.thing-item.is c.loop-thing.invariant
    (c.in_ok-encode_u16.ensures ∙ ap (λ n. c.loop-thing.out.items ++ next_u16 n) c.thing_number.ensures)

pub returns : goal.returns
returns c = all_put (λ t. next_u16 (thing_number t)) _ _ _ c.loop-thing-test.false c.loop-thing.invariant
