use Rattle.std.proofs.Common.{◌-◌}
use Rattle.aom_codec.specs.Codec.{always, keep, read_many}
use Rattle.aom_codec.specs.Format.{method}
use Rattle.aom_codec.proofs.Loops.{StillReads}
use Rattle.aom_codec.proofs.reader.ByteReader.methods.Given as goal

abbrev pub invariant-loop : goal.invariant-loop
invariant-loop l = StillReads (always (method l.version l.classes l.count)) keep tt l.methods.items
    (l.count - l.counter) l.self (read_many (always (method l.version l.classes l.count)) keep tt l.count l.fn.self)
