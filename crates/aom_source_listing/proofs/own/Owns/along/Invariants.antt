-- The members of the last classes so far.
use Rattle.std.proofs.Common.{◌≡◌, ◌-◌, drop, length}
use Rattle.aom_source_listing.specs.Members.{members_along}
use Rattle.aom_source_listing.proofs.own.Owns.along.Given as goal

abbrev pub invariant-loop-back : goal.invariant-loop-back
invariant-loop-back l = l.members.items ≡ members_along l.self l.fn.kind (drop (length l.line.items - l.back) l.line.items)
