-- A run that ended by itself says nothing to the errors.
use Rattle.std.proofs.Common.{refl}
use Rattle.aom_commands.proofs.commands.end.Goals as goal

pub returns-in-Stopped : goal.returns-in-Stopped
returns-in-Stopped c = rw (c.in_ok-outcome.was, c.in-Stopped.is) (λ errors silent. (refl, silent))

pub returns-in-Waiting : goal.returns-in-Waiting
returns-in-Waiting c = rw (c.in_ok-outcome.was, c.in-Waiting.is) (λ errors silent. (refl, silent))

pub returns-in-MainLeft : goal.returns-in-MainLeft
returns-in-MainLeft c = rw (c.in_ok-outcome.was, c.in-MainLeft.is) (λ errors silent. (refl, silent))

pub returns-in-Limit : goal.returns-in-Limit
returns-in-Limit c = rw (c.in_ok-outcome.was, c.in-Limit.is) (λ errors silent. (refl, silent))

pub returns-in-Error : goal.returns-in-Error
returns-in-Error c = rw (c.in_ok-outcome.was, c.in-Error.is) (λ errors silent. (refl, silent))

pub returns-in-WriteFault : goal.returns-in-WriteFault
returns-in-WriteFault c = rw (c.in_ok-outcome.was, c.in-WriteFault.is) (λ errors status reported. reported)
