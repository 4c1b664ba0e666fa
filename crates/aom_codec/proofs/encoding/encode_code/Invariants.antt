use Rattle.std.proofs.Common.{◌≡◌, ◌++◌, flat_map, take}
use Rattle.aom_codec.specs.Serialization.{instruction}
use Rattle.aom_codec.proofs.encoding.encode_code.Given as goal

abbrev pub invariant-loop-instr : goal.invariant-loop-instr
invariant-loop-instr l = l.out.items ≡ l.fn.out.items ++ flat_map instruction (take l.instr-index l.code)
