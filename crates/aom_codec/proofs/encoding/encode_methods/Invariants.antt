use Rattle.std.proofs.Common.{◌≡◌, ◌++◌, flat_map, take}
use Rattle.aom_codec.specs.Serialization.{method}
use Rattle.aom_codec.proofs.encoding.encode_methods.Given as goal

abbrev pub invariant-loop-method : goal.invariant-loop-method
invariant-loop-method l = l.out.items ≡ l.fn.out.items ++ flat_map (method l.version) (take l.method-index l.methods)
