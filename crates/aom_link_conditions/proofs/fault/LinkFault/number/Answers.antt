use Rattle.std.proofs.Common.{rules}
use Rattle.aom_link_conditions.specs.Faults.{number_of}
use Rattle.aom_link_conditions.proofs.fault.LinkFault.number.Goals as goal

pub returns : goal.returns
unfolding number_of
returns c = search rules
