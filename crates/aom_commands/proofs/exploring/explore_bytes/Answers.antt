-- The tries alone are asked for.
use Rattle.aom_commands.proofs.exploring.explore_bytes.Goals as goal

pub returns : goal.returns
returns g c = rw c.of_tries-options.ensures at c.explore_bytes_with.ensures
