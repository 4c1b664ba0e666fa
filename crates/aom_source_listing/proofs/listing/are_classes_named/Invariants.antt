-- The classes so far have their names.
use Rattle.std.proofs.Common.{◌<◌, [], ℕ, get_or}
use Rattle.aom_diagnostics.specs.Declarations.{class_names}
use Rattle.aom_source_listing.specs.Classes.{IsClassName}
use Rattle.aom_source_listing.specs.Listing.{class_token}
use Rattle.aom_source_listing.proofs.listing.are_classes_named.Given as goal

abbrev pub invariant-loop-number : goal.invariant-loop-number
invariant-loop-number l = (i : ℕ) → i < l.number → IsClassName l.names (class_token l.tokens l.text i) (get_or (class_names l.text) i [])
