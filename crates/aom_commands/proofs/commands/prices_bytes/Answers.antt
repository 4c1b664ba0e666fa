-- A check with the figures.
use Rattle.aom_commands.proofs.commands.prices_bytes.Goals as goal

pub returns : goal.returns
returns g c = c.reported.ensures
