-- The classes so far, and those that are still looked for.
use Rattle.std.proofs.Common.{◌≡◌, ◌++◌, ◌-◌, Some}
use Rattle.aom_source_names.specs.Meanings.{line_of}
use Rattle.aom_source_listing.proofs.own.Owns.line.Given as goal

abbrev pub invariant-loop : goal.invariant-loop
invariant-loop l = record { so_far : l.line.items ++ line_of l.self (256 - l.counter) l.next ≡ line_of l.self 256 (Some l.fn.class) }
