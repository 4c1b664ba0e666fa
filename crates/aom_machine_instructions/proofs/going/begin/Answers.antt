use Rattle.std.proofs.Common.{rules}
use Rattle.aom_machine_instructions.proofs.going.begin.Goals as goal

pub destruct-requires : goal.destruct-requires
destruct-requires c = search rules

pub returns-then-is_server : goal.returns-then-is_server
returns-then-is_server c = search rules
