use Rattle.std.proofs.Common.{refl}
use Rattle.aom_machine_instructions.proofs.servers.end_all.Goals as goal

pub loop-init : goal.loop-init
loop-init c = (c.requires.within, c.requires.empty, refl)

pub session_gone-requires-clause-server : goal.session_gone-requires-clause-server
session_gone-requires-clause-server c = c.loop.invariant.0

pub session_gone-requires-clause-empty : goal.session_gone-requires-clause-empty
session_gone-requires-clause-empty c = c.loop.invariant.1
