-- What was not told yet is told as the call tells it.
use Rattle.std.proofs.Common.{ℕ, List, Option, Result, Ok, Err}
use Rattle.aom_commands.specs.declared.status.ExitStatus.{ExitStatus}
use Rattle.aom_commands.specs.declared.faults.Fault.{Fault}
use Rattle.aom_commands.specs.Headline.{Sent}
use Rattle.aom_commands.specs.Unreported.{Unreported}
use Rattle.aom_diagnostic_commands.specs.Tellings.{AnsweredSo, ExplainsIn, IsLineIn, Tells}
use Rattle.aom_diagnostic_commands.specs.declared.telling.Telling.{Telling}
use Rattle.aom_diagnostic_commands.specs.declared.telling.Telling.TheVariants.{Plain, Explained, AsLine}
use Rattle.aom_diagnostic_commands.proofs.CommandsLemmas.{answered}
use Rattle.aom_diagnostic_commands.proofs.Behind.{as_line, explained}

pub told : (telling : Telling) (image : List ℕ) (text : Option (List ℕ)) (script : List ℕ) (answers : Sent → ExitStatus → Type 0)
    (found : Result ExitStatus Fault) (errors : Sent) (status : ExitStatus) → Unreported answers found →
    AnsweredSo telling image text script found errors status → Tells telling image text script answers errors status
told Plain image text script answers (Ok found) errors status unreported reported = answered answers (Ok found) errors status unreported reported
told Plain image text script answers (Err fault) errors status unreported reported = answered answers (Err fault) errors status unreported reported
told Explained image text script answers (Ok found) errors status unreported reported =
    explained answers (ExplainsIn image text script) (Ok found) errors status unreported reported
told Explained image text script answers (Err fault) errors status unreported reported =
    explained answers (ExplainsIn image text script) (Err fault) errors status unreported reported
told (AsLine file) image text script answers (Ok found) errors status unreported reported =
    as_line answers file.now (IsLineIn image text) (Ok found) errors status unreported reported
told (AsLine file) image text script answers (Err fault) errors status unreported reported =
    as_line answers file.now (IsLineIn image text) (Err fault) errors status unreported reported
