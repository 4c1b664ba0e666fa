use Rattle.std.proofs.Common.{rules}
use Rattle.aom_machine_instructions.proofs.servers.take_session.Goals as goal

pub returns-clause-session : goal.returns-clause-session
returns-clause-session c = search rules
