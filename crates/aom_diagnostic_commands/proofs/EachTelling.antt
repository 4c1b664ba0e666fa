-- What was not told yet is told with the faults of all methods.
use Rattle.std.proofs.Common.{ℕ, List, Option, Result, Ok, Err, subst, sym}
use Rattle.aom_commands.specs.declared.status.ExitStatus.{ExitStatus}
use Rattle.aom_commands.specs.declared.faults.Fault.{Fault}
use Rattle.aom_commands.specs.Headline.{Sent}
use Rattle.aom_commands.specs.Unreported.{Unreported}
use Rattle.aom_diagnostic_commands.specs.EachMethod.{AllAnsweredSo, TellsAll}
use Rattle.aom_diagnostic_commands.specs.EachMethod.TellsAll.{told, without}
use Rattle.aom_diagnostic_commands.specs.declared.telling.Telling.{Telling}

pub all_told : (telling : Telling) (image : List ℕ) (text : Option (List ℕ)) (answers : Sent → ExitStatus → Type 0) (found : Result ExitStatus Fault) (errors : Sent)
    (status : ExitStatus) → Unreported answers found → AllAnsweredSo telling image text found errors status → TellsAll telling image text answers errors status
all_told telling image text answers (Ok found) errors status unreported reported = without reported.1 (subst (answers errors) (sym reported.0) (unreported errors reported.1))
all_told telling image text answers (Err fault) errors status unreported reported = told fault (λ plain. unreported plain status) reported
