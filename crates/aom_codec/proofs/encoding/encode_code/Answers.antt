-- Each goes behind those before it.
use Rattle.aom_codec.specs.Serialization.{instruction}
use Rattle.aom_codec.proofs.Putting.{one_more, all_put}
use Rattle.aom_codec.proofs.encoding.encode_code.Goals as goal

pub loop-instr-preserved : goal.loop-instr-preserved
loop-instr-preserved c = one_more instruction _ _ _ c.instr-item.result c.loop-instr-test.true c.instr-item.is c.loop-instr.invariant c.in_ok-encode_instruction.ensures

pub returns : goal.returns
returns c = all_put instruction _ _ _ c.loop-instr-test.false c.loop-instr.invariant
