use Rattle.std.proofs.Common.{rules}
use Rattle.aom_script.proofs.clients.read_connected.Goals as goal

pub returns-in-Some-Some-Some-Some : goal.returns-in-Some-Some-Some-Some
returns-in-Some-Some-Some-Some c = search rules
