-- The lines of the classes so far tell their members.
use Rattle.std.proofs.Common.{◌<◌, ℕ, get_or}
use Rattle.aom_diagnostics.specs.Lines.{class_lines}
use Rattle.aom_source_listing.specs.Lines.{text_line}
use Rattle.aom_source_listing.specs.Listing.{class_token}
use Rattle.aom_source_listing.specs.Members.{TellsMembers}
use Rattle.aom_source_listing.proofs.listing.are_members_named.Given as goal

abbrev pub invariant-loop-number : goal.invariant-loop-number
invariant-loop-number l = (i : ℕ) → i < l.number → TellsMembers l.names (class_token l.tokens l.text i) (text_line l.text (get_or (class_lines l.text) i 0))
