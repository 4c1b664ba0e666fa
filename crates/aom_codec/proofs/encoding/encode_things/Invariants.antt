use Rattle.std.proofs.Common.{◌≡◌, ◌++◌, flat_map, take}
use Rattle.aom_codec.specs.Serialization.{next_u16, thing_number}
use Rattle.aom_codec.proofs.encoding.encode_things.Given as goal

abbrev pub invariant-loop-thing : goal.invariant-loop-thing
invariant-loop-thing l = l.out.items ≡ l.fn.out.items ++ flat_map (λ t. next_u16 (thing_number t)) (take l.thing-index l.things)
