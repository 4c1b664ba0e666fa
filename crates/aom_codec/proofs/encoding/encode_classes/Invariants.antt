use Rattle.std.proofs.Common.{◌≡◌, ◌++◌, flat_map, take}
use Rattle.aom_codec.specs.Serialization.{class}
use Rattle.aom_codec.proofs.encoding.encode_classes.Given as goal

abbrev pub invariant-loop-class : goal.invariant-loop-class
invariant-loop-class l = l.out.items ≡ l.fn.out.items ++ flat_map (class l.version) (take l.class-index l.classes)
