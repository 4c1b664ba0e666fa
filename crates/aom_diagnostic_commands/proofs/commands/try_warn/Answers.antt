-- What was found is sent, or the bytes' fault is left to be told.
use Rattle.std.proofs.Common.{refl}
use Rattle.aom_diagnostic_commands.proofs.Warning.{follows, unwarned, warns}
use Rattle.aom_diagnostic_commands.proofs.commands.try_warn.Goals as goal

pub returns-in-Ok : goal.returns-in-Ok
returns-in-Ok g c =
    follows _ _ _ (λ errors status sends. warns _ _ _ _ errors status (rw c.deref.ensures.value c.in-Ok.ensures.ok) sends) c.try_send.ensures

pub returns-in-Err : goal.returns-in-Err
returns-in-Err g c = λ errors status reported. unwarned _ _ c.in-Err.fault _ errors status c.in-Err.ensures.err refl reported
