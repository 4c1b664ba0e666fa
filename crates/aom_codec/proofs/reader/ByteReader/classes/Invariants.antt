use Rattle.std.proofs.Common.{◌-◌, ◌≤◌}
use Rattle.aom_codec.specs.Codec.{read_many}
use Rattle.aom_codec.specs.Format.{class, count_server}
use Rattle.aom_codec.proofs.Loops.{StillReads}
use Rattle.aom_codec.proofs.reader.ByteReader.classes.Given as goal

abbrev pub invariant-loop : goal.invariant-loop
invariant-loop l = record {
  reads : StillReads (class l.version l.count l.natives) count_server l.servers l.classes.items
      (l.count - l.counter) l.self (read_many (class l.version l.count l.natives) count_server 0 l.count l.fn.self);
  few : l.servers ≤ l.counter;
}
