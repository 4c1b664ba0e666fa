-- The number is the one that is read.
use Rattle.std.proofs.Common.{rules}
use Rattle.aom_source_listing.proofs.labels.is_numbered.Goals as goal

pub returns : goal.returns
returns c = λ same. record { number = c.in-Some.number.size; is = search rules }
