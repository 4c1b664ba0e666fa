-- What a call has come to while its fault is not told yet.
use Rattle.std.specs.Prelude.{◌≡◌, Result, Ok, Err}
use Rattle.aom_commands.specs.declared.status.ExitStatus.{ExitStatus}
use Rattle.aom_commands.specs.declared.faults.Fault.{Fault}
use Rattle.aom_commands.specs.Headline.{IsSilent, Sent, Reported}

-- a status, and with nothing said to the errors that is an answer; or a fault, and each way to tell it makes an answer
abbrev pub Unreported : (Sent → ExitStatus → Type 0) → Result ExitStatus Fault → Type 0
Unreported answers (Ok status) = (errors : Sent) → IsSilent errors → answers errors status
Unreported answers (Err fault) = (errors : Sent) (status : ExitStatus) → Reported fault status errors → answers errors status

-- a status was answered and nothing said to the errors, or the fault was told
abbrev pub Answered : Result ExitStatus Fault → Sent → ExitStatus → Type 0
Answered (Ok found) errors status = (status ≡ found) × IsSilent errors
Answered (Err fault) errors status = Reported fault status errors
