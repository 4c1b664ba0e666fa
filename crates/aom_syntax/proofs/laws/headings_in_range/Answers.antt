use Rattle.aom_syntax.proofs.RangedHeadings.{heading_within}
use Rattle.aom_syntax.proofs.laws.headings_in_range.Goals as goal

pub returns : goal.returns
returns c before natives scope version settled place = (heading_within before natives scope version settled place).each
