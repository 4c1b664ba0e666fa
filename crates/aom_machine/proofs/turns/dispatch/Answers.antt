use Rattle.std.proofs.Common.{rules}
use Rattle.aom_machine.proofs.turns.dispatch.Goals as goal

pub returns : goal.returns
returns c = search rules
