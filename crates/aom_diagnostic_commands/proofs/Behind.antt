-- A command's fault that is told, and explained behind its line: it answers as it does without.
use Rattle.std.proofs.Common.{ℕ, Bool, List, Option, Result, Ok, Err, refl, subst, sym}
use Rattle.std.specs.Prelude.{IfErr, IfOk}
use Rattle.aom_commands.specs.declared.status.ExitStatus.{ExitStatus}
use Rattle.aom_commands.specs.declared.faults.Fault.{Fault}
use Rattle.aom_commands.specs.declared.faults.Fault.TheVariants.{Memory}
use Rattle.aom_commands.specs.Headline.{Says, Sent, ReportsFault}
use Rattle.aom_commands.specs.Unreported.{Unreported}
use Rattle.aom_diagnostic_commands.specs.Explaining.{AnsweredOrExplained, Explaining, ReportedAndExplained}
use Rattle.aom_diagnostic_commands.specs.Explaining.Explaining.{behind, without}
use Rattle.aom_diagnostic_commands.specs.AsLine.{AnsweredOrAsLine, OneLineFault}
use Rattle.aom_diagnostic_commands.specs.AsLine.OneLineFault.{without as unfaulted, reported as faulted}
use Rattle.aom_diagnostic_commands.proofs.Saying.{said_or_reported}

-- what was not told yet is an answer without a fault, and with one each way to tell it is, and so is this one
pub explained : (answers : Sent → ExitStatus → Type 0) (explains : Fault → List ℕ → Type 0) (found : Result ExitStatus Fault) (errors : Sent)
    (status : ExitStatus) → Unreported answers found → AnsweredOrExplained explains found errors status → Explaining answers explains errors status
explained answers explains (Ok found) errors status unreported reported = without reported.1 (subst (answers errors) (sym reported.0) (unreported errors reported.1))
explained answers explains (Err fault) errors status unreported more = behind fault more (unreported more.line status more.reported)

-- so it is with a fault that is told in another line
pub as_line : (answers : Sent → ExitStatus → Type 0) (file : List ℕ) (is : Fault → Option ℕ → Type 0) (found : Result ExitStatus Fault) (errors : Sent)
    (status : ExitStatus) → Unreported answers found → AnsweredOrAsLine file is found errors status → OneLineFault answers file is errors status
as_line answers file is (Ok found) errors status unreported reported = unfaulted reported.1 (subst (answers errors) (sym reported.0) (unreported errors reported.1))
as_line answers file is (Err fault) errors status unreported (so, reported) = faulted fault (λ plain. unreported plain status) so reported

-- the explanation begins where the line has ended
pub reported_first : {X E : Type 0} (made : Result X E) (items : X → List ℕ) (reports : Sent → Type 0) (explains : List ℕ → Type 0)
    (before middle now : Option (List ℕ)) (reported_fails fails : Bool) → reports (record { before = before; now = middle; failed = reported_fails }) →
    IfOk made (λ v. explains (items v)) → IfOk made (λ v. Says (items v) (record { before = middle; now = now; failed = fails })) → IfErr made (λ e. ReportsFault
    Memory (record { before = middle; now = now; failed = fails })) → ReportedAndExplained reports explains (record { before = before; now = now; failed = fails })
reported_first made items reports explains before middle now reported_fails fails reported right says wanting = record {
  line = record { before = before; now = middle; failed = reported_fails };
  begins = refl;
  reported = reported;
  explained = said_or_reported made items explains (record { before = middle; now = now; failed = fails }) right says wanting;
}
