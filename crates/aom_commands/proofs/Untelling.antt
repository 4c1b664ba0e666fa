-- What follows of an answer follows of one that is not told yet, and what is said of a text of an equal one.
use Rattle.std.proofs.Common.{arith, ◌≡◌, ◌∙◌, ℕ, List, Option, Ok, Err, Result, ap, subst, sym}
use Rattle.aom_transcript.specs.Sinks.{after}
use Rattle.aom_commands.specs.declared.status.ExitStatus.{ExitStatus}
use Rattle.aom_commands.specs.declared.faults.Fault.{Fault}
use Rattle.aom_commands.specs.Headline.{Says, Sent}
use Rattle.aom_commands.specs.Unreported.{Answered, Unreported}

pub unreported_weaker : (one other : Sent → ExitStatus → Type 0) (found : Result ExitStatus Fault) →
    ((errors : Sent) (status : ExitStatus) → one errors status → other errors status) → Unreported one found → Unreported other found
unreported_weaker one other x follows unreported = grind arith

-- what was not told yet is told
pub answered : (answers : Sent → ExitStatus → Type 0) (found : Result ExitStatus Fault) (errors : Sent) (status : ExitStatus) →
    Unreported answers found → Answered found errors status → answers errors status
answered answers (Ok found) errors status unreported reported = subst (answers errors) (sym reported.0) (unreported errors reported.1)
answered answers (Err fault) errors status unreported reported = unreported errors status reported

-- what is said of a text is said of an equal one
pub says_same : (given text : List ℕ) (sent : Sent) → given ≡ text → Says given sent → Says text sent
says_same given text sent is says = subst (λ t. Says t sent) is says

pub out_same : (given text : List ℕ) (before now : Option (List ℕ)) → given ≡ text → now ≡ after before given → now ≡ after before text
out_same given text before now is out = out ∙ ap (λ t. after before t) is
