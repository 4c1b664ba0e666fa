-- Where the verifier stops, the method has no typing.
use Rattle.std.proofs.Common.{refl}
use Rattle.aom_diagnostic_commands.proofs.Untyped.{fails_there, untyped_there}
use Rattle.aom_diagnostic_commands.proofs.refusals.refusal_of.Goals as goal

pub returns-in-Some : goal.returns-in-Some
returns-in-Some c =
    let stops = rw c.in-Some.is at c.in_ok-stop.ensures.some in
    let fails = fails_there _ _ _ _ _ stops in
    (refl, untyped_there _ _ _ _ fails, fails)

pub returns-in-None : goal.returns-in-None
returns-in-None c = rw c.in-None.is at c.in_ok-stop.ensures.none
