-- How far the checked machine has come.
use Rattle.std.specs.Prelude.{List, [], ◌∷◌, Option, Some, None}
use Rattle.aom_semantics.specs.State.{State}
use Rattle.aom_transcript.specs.declared.line.Ending.{Ending}
use Rattle.aom_machine_state.specs.declared.progress.Progress.{Progress}
use Rattle.aom_machine_state.specs.declared.progress.Progress.TheVariants.{Running, Turned, Ended}

abbrev pub progress_by : {T : Type 0} → Option Ending → List T → Progress
progress_by (Some ending) tasks = Ended ending
progress_by None [] = Turned
progress_by None (task ∷ tasks) = Running

-- the run is over, or nothing is at hand, or something is
abbrev pub progress_of : State → Progress
progress_of s = progress_by s.rest.ended s.tasks
