use Rattle.std.proofs.Common.{◌≡◌, ◌-◌}
use Rattle.aom_codec.specs.Codec.{unused}
use Rattle.aom_codec.specs.Codec.{next_u16}
use Rattle.aom_codec.specs.declared.fault.LoadFault.TheVariants.{NotZero}
use Rattle.aom_codec.proofs.reader.ByteReader.unused_pairs.Given as goal

abbrev pub invariant-loop : goal.invariant-loop
invariant-loop l = (unused (l.count - l.counter) next_u16 NotZero).read l.self ≡ (unused l.count next_u16 NotZero).read l.fn.self
