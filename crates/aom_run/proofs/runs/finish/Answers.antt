-- Where the sink has failed, that is told.
use Rattle.std.proofs.Common.{refl}
use Rattle.aom_run.proofs.runs.finish.Goals as goal

pub returns-then-has_failed-clause-whole : goal.returns-then-has_failed-clause-whole
returns-then-has_failed-clause-whole g c = λ other s stands. absurd (other refl)
