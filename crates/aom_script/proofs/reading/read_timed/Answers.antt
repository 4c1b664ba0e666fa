use Rattle.std.proofs.Common.{rules}
use Rattle.aom_script.proofs.reading.read_timed.Goals as goal

pub returns-else-eq-2 : goal.returns-else-eq-2
returns-else-eq-2 c = search rules
