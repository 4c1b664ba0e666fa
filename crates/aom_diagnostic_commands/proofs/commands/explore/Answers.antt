-- The tries alone are asked for.
use Rattle.aom_diagnostic_commands.proofs.commands.explore.Goals as goal

pub returns : goal.returns
returns g c = rw c.of_tries-options.ensures at c.explore_with.ensures
