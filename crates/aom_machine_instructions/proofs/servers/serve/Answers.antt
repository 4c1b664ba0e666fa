use Rattle.std.proofs.Common.{rules}
use Rattle.aom_machine_instructions.proofs.servers.serve.Goals as goal

pub returns-in-Some-Dispatched-Server-default-default-Accepts : goal.returns-in-Some-Dispatched-Server-default-default-Accepts
returns-in-Some-Dispatched-Server-default-default-Accepts c = search rules
