use Rattle.aom_debug_stepping.proofs.Runs.{reaches_by, reaches_course, reaches_on, reaches_over, reaches_step_over}
use Rattle.aom_debug_stepping.proofs.laws.run_goals_are_a_run.Goals as goal

pub returns-clause-steps : goal.returns-clause-steps
returns-clause-steps c = reaches_by

pub returns-clause-turns : goal.returns-clause-turns
returns-clause-turns c = reaches_over

pub returns-clause-goes : goal.returns-clause-goes
returns-clause-goes c = reaches_on

pub returns-clause-run_goals : goal.returns-clause-run_goals
returns-clause-run_goals c = reaches_course

pub returns-clause-over : goal.returns-clause-over
returns-clause-over c = reaches_step_over
