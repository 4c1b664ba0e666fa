-- The members so far are written.
use Rattle.std.proofs.Common.{◌≡◌, ◌++◌}
use Rattle.aom_source_listing.specs.Members.{entries_in}
use Rattle.aom_source_listing.proofs.members.write_entries.Given as goal

abbrev pub invariant-loop-number : goal.invariant-loop-number
invariant-loop-number l = record { so_far : l.text ≡ l.fn.text ++ entries_in l.names l.fn.kind l.members.items l.number }
