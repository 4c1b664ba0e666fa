use Rattle.std.proofs.Common.{◌≡◌, ◌++◌, map, take}
use Rattle.aom_diagnostics.specs.Places.{shown_byte}
use Rattle.aom_diagnostics.proofs.place.write_shown.Given as goal

-- the bytes so far are out
abbrev pub invariant-loop-byte : goal.invariant-loop-byte
invariant-loop-byte l = l.out ≡ l.fn.out ++ map shown_byte (take l.byte-index l.bytes)
