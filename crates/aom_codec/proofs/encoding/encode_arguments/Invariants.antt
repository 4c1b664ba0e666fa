use Rattle.std.proofs.Common.{◌≡◌, ◌++◌, flat_map, take}
use Rattle.aom_codec.specs.Serialization.{next_u16, argument_number}
use Rattle.aom_codec.proofs.encoding.encode_arguments.Given as goal

abbrev pub invariant-loop-argument : goal.invariant-loop-argument
invariant-loop-argument l = l.out.items ≡ l.fn.out.items ++ flat_map (λ a. next_u16 (argument_number a)) (take l.argument-index l.arguments)
