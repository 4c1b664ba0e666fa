-- How a run that was written ended.
use Rattle.aom_transcript.specs.declared.line.Ending.{Ending}
use Rattle.aom_transcript.specs.declared.line.Ending.TheVariants as endings
use Rattle.aom_run.specs.declared.outcome.Outcome.{Outcome}
use Rattle.aom_run.specs.declared.outcome.Outcome.TheVariants.{Stopped, Waiting, MainLeft, Limit, Error}

abbrev pub outcome_of : Ending → Outcome
outcome_of endings.Stopped = Stopped
outcome_of endings.Waiting = Waiting
outcome_of (endings.MainLeft code) = MainLeft code
outcome_of endings.Limit = Limit
outcome_of (endings.Error answer) = Error answer
