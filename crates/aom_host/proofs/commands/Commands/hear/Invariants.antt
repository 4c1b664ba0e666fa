-- Where the session is over, a line has come.
use Rattle.std.proofs.Common.{◌≡◌, ◌≤◌, ◌<◌, ◌-◌, length, true}
use Rattle.aom_host.proofs.commands.Commands.hear.Given as goal

abbrev pub invariant-loop-at : goal.invariant-loop-at
invariant-loop-at g l = record {
  within : l.at ≤ length l.bytes;
  heard : l.self.has_quit ≡ true → 0 < l.at;
  reader : l.self.reader ≡ l.initial.self.reader;
}

abbrev pub decreases-loop-at : goal.decreases-loop-at
decreases-loop-at g l = length l.bytes - l.at
