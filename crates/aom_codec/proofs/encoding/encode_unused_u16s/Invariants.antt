use Rattle.std.proofs.Common.{◌≡◌, ◌++◌}
use Rattle.aom_codec.specs.Serialization.{unused_pairs}
use Rattle.aom_codec.proofs.encoding.encode_unused_u16s.Given as goal

abbrev pub invariant-loop : goal.invariant-loop
invariant-loop l = l.out.items ≡ l.fn.out.items ++ unused_pairs l.counter
