use Rattle.aom_syntax.proofs.RangedHeaders.{header_within}
use Rattle.aom_syntax.proofs.laws.headers_in_range.Goals as goal

pub returns : goal.returns
returns c scope strict = (header_within scope strict).each
