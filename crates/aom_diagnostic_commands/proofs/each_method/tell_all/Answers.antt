-- Of a refusal of the verifier all methods are told, with its status.
use Rattle.std.proofs.Common.{refl}
use Rattle.aom_diagnostic_commands.proofs.each_method.tell_all.Goals as goal

pub returns-in-Verify : goal.returns-in-Verify
returns-in-Verify g c = rw c.in-Verify.is (refl, c.tell_methods.ensures)
