use Rattle.std.proofs.Common.{rules}
use Rattle.aom_machine.proofs.wanted.current_native_call.Goals as goal

pub returns-in-Some-Destroy : goal.returns-in-Some-Destroy
returns-in-Some-Destroy c = search rules
