use Rattle.std.proofs.Common.{◌-◌}
use Rattle.aom_codec.specs.Codec.{always, keep, read_many}
use Rattle.aom_codec.specs.Instructions.{instruction}
use Rattle.aom_codec.proofs.Loops.{StillReads}
use Rattle.aom_codec.proofs.reader.ByteReader.code.Given as goal

abbrev pub invariant-loop : goal.invariant-loop
invariant-loop l = StillReads (always (instruction l.limits)) keep tt l.code.items (l.limits.places - l.counter) l.self
    (read_many (always (instruction l.limits)) keep tt l.limits.places l.fn.self)
