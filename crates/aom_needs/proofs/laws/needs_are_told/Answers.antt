use Rattle.aom_needs.proofs.Told.{all_told, told_first}
use Rattle.aom_needs.proofs.laws.needs_are_told.Goals as goal

pub returns : goal.returns
returns c = record { needs = all_told; first = told_first }
