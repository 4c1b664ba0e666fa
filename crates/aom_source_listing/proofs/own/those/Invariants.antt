-- Those among the tokens so far.
use Rattle.std.proofs.Common.{◌≡◌, take}
use Rattle.std.specs.List.{filter}
use Rattle.aom_source_listing.specs.Own.{fits}
use Rattle.aom_source_listing.proofs.own.those.Given as goal

abbrev pub invariant-loop-token : goal.invariant-loop-token
invariant-loop-token l = l.found.items ≡ filter (fits l.names l.fn.sought) (take l.token-index l.tokens.items)
