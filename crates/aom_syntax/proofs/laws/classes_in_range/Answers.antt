use Rattle.aom_syntax.proofs.RangedClasses.{class_within}
use Rattle.aom_syntax.proofs.laws.classes_in_range.Goals as goal

pub returns : goal.returns
returns c scope version natives place servers = (class_within scope version natives place servers).each
