-- None of the tokens so far is that name.
use Rattle.std.proofs.Common.{◌≡◌, drop}
use Rattle.std.specs.List.{filter}
use Rattle.aom_source_listing.specs.Own.{is_name_at}
use Rattle.aom_source_listing.proofs.own.first_named.Given as goal

abbrev pub invariant-loop-token : goal.invariant-loop-token
invariant-loop-token l = record { later : filter (is_name_at l.names l.fn.at) (drop l.token-index l.tokens.items) ≡ filter (is_name_at l.names l.fn.at) l.tokens.items }
