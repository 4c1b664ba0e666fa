use Rattle.std.proofs.Common.{rules}
use Rattle.aom_run.proofs.turns.next_time.Goals as goal

pub returns-in-Some-Some : goal.returns-in-Some-Some
returns-in-Some-Some g c = search rules
