-- The methods so far have their names.
use Rattle.std.proofs.Common.{◌<◌, [], ℕ, get_or}
use Rattle.aom_diagnostics.specs.Declarations.{method_names}
use Rattle.aom_source_listing.specs.Labels.{IsLabel}
use Rattle.aom_source_listing.specs.Listing.{method_token}
use Rattle.aom_source_listing.proofs.listing.are_methods_named.Given as goal

abbrev pub invariant-loop-number : goal.invariant-loop-number
invariant-loop-number l = (i : ℕ) → i < l.number → IsLabel l.names (method_token l.tokens l.text i) (get_or (method_names l.text) i [])
