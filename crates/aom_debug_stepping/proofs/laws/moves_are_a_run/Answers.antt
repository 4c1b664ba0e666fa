use Rattle.aom_debug_stepping.proofs.Sending.{moving_debug_step, reaches_arrived}
use Rattle.aom_debug_stepping.proofs.laws.moves_are_a_run.Goals as goal

pub returns-clause-debug_steps : goal.returns-clause-debug_steps
returns-clause-debug_steps c = moving_debug_step

pub returns-clause-arrives : goal.returns-clause-arrives
returns-clause-arrives c = reaches_arrived
