use Rattle.std.proofs.Common.{rules}
use Rattle.aom_script.proofs.clients.read_end.Goals as goal

pub returns-then-eq : goal.returns-then-eq
returns-then-eq c = search rules
