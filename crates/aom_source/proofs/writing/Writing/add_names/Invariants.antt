-- The names so far are those of the method, by the lines of the text.
use Rattle.std.proofs.Common.{◌≡◌, false, length, map, take}
use Rattle.aom_source.specs.Map.{Names, at_line}
use Rattle.aom_source.proofs.writing.Writing.add_names.Given as goal

abbrev pub invariant-loop-named : goal.invariant-loop-named
invariant-loop-named l = record {
  origins : l.self.origins ≡ l.fn.self.origins;
  lacks : l.self.lacks ≡ false → l.fn.self.lacks ≡ false;
  names : Names l.fn.self l.self (map (at_line (length l.fn.self.origins.items)) (take l.named-index l.names));
}
