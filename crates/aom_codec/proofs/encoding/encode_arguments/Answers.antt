-- Each goes behind those before it.
use Rattle.std.proofs.Common.{◌∙◌, ◌++◌, ap}
use Rattle.aom_codec.specs.Serialization.{next_u16, argument_number}
use Rattle.aom_codec.proofs.Putting.{one_more, all_put}
use Rattle.aom_codec.proofs.encoding.encode_arguments.Goals as goal

pub loop-argument-preserved : goal.loop-argument-preserved
loop-argument-preserved c = one_more (λ a. next_u16 (argument_number a)) _ _ _ c.argument-item.result c.loop-argument-test.true
    c.argument-item.is c.loop-argument.invariant (c.in_ok-encode_u16.ensures ∙ ap (λ n. c.loop-argument.out.items ++ next_u16 n) c.argument_number.ensures)

pub returns : goal.returns
returns c = all_put (λ a. next_u16 (argument_number a)) _ _ _ c.loop-argument-test.false c.loop-argument.invariant
