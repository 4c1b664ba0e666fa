use Rattle.std.proofs.Common.{◌≡◌, ◌≤◌, ◌+◌, ◌*◌, take}
use Rattle.aom_source_tokens.specs.Places.{place_after}
use Rattle.aom_source_tokens.proofs.place.Place.after.Given as goal

abbrev pub invariant-loop-byte : goal.invariant-loop-byte
invariant-loop-byte l = record {
  after : l.place ≡ place_after l.fn.self (take l.byte-index l.bytes);
  at : l.place.at ≡ l.fn.self.at + l.byte-index;
  small : l.place.line + l.place.column ≤ l.fn.self.line + l.fn.self.column + 2 * l.byte-index;
}
