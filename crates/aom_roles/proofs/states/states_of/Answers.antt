use Rattle.std.proofs.Common.{rules}
use Rattle.aom_roles.specs.States.{states_of}
use Rattle.aom_roles.proofs.states.states_of.Goals as goal

pub returns-in-Some-Server : goal.returns-in-Some-Server
unfolding states_of
returns-in-Some-Server c = let is = c.server_states.ensures in search rules
