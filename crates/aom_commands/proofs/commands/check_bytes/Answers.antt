-- A check without the figures.
use Rattle.aom_commands.proofs.commands.check_bytes.Goals as goal

pub returns : goal.returns
returns g c = c.reported.ensures
