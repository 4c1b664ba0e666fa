use Rattle.std.proofs.Common.{refl}
use Rattle.aom_machine_instructions.proofs.messages.take_served.Goals as goal

pub returns-clause-taken : goal.returns-clause-taken
returns-clause-taken c = rw c.replace.ensures.after refl
