use Rattle.std.proofs.Common.{rules}
use Rattle.aom_roles.specs.Shapes.{kind_of}
use Rattle.aom_machine_instructions.proofs.going.is_server.Goals as goal

pub returns : goal.returns
unfolding kind_of
returns c = search rules
