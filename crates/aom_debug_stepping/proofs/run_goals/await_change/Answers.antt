-- A variable of the innermost method is watched in its dispatch, and another one to the end of the run.
use Rattle.std.proofs.Common.{◌∙◌, sym}
use Rattle.aom_debug_stepping.proofs.run_goals.await_change.Goals as goal

pub returns-then-is_local-clause-went : goal.returns-then-is_local-clause-went
returns-then-is_local-clause-went g c = rw (sym c.is_local.ensures ∙ c.if-is_local.true) c.run_in_dispatch.ensures.went

pub returns-clause-went : goal.returns-clause-went
returns-clause-went g c = rw (sym c.is_local.ensures ∙ c.if-is_local.false) c.resume_run.ensures.went
