-- What was not told yet is told.
use Rattle.aom_commands.proofs.Untelling.{answered}
use Rattle.aom_commands.proofs.commands.reported.Goals as goal

pub returns : goal.returns
returns g c = answered _ _ _ _ (rw c.none.ensures at c.try_check-found.ensures) c.answer.ensures
