use Rattle.std.proofs.Common.{◌-◌}
use Rattle.aom_codec.specs.Codec.{always, keep, read_many}
use Rattle.aom_codec.specs.Format.{thing}
use Rattle.aom_codec.proofs.Loops.{StillReads}
use Rattle.aom_codec.proofs.reader.ByteReader.things.Given as goal

abbrev pub invariant-loop : goal.invariant-loop
invariant-loop l = StillReads (always (thing l.classes)) keep tt l.things.items (l.count - l.counter) l.self
    (read_many (always (thing l.classes)) keep tt l.count l.fn.self)
