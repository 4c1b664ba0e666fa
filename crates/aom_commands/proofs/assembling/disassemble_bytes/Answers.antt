-- The listing of a decoded image denotes it.
use Rattle.aom_commands.proofs.Meaning.{lists}
use Rattle.aom_commands.proofs.assembling.disassemble_bytes.Goals as goal

pub returns-clause-ok : goal.returns-clause-ok
returns-clause-ok c = lists _ _ _ c.in_ok-image.ensures.found.0 c.in_ok-image.ensures.found.1 c.in_ok-disassemble.ensures
