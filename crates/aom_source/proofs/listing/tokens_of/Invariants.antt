-- The tokens so far.
use Rattle.std.proofs.Common.{◌≡◌, map, take}
use Rattle.aom_source.proofs.listing.tokens_of.Given as goal

abbrev pub invariant-loop-origin : goal.invariant-loop-origin
invariant-loop-origin l = l.tokens.items ≡ map (λ o. o.token) (take l.origin-index l.origins.items)
