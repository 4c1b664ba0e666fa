-- What is known of the bytes that were sent is what the status answers.
use Rattle.std.proofs.lemmas.Bool.Decides.{nat_tests}
use Rattle.std.proofs.Common.{arith, ◌≡◌, List, ℕ, true, sym, subst, inl, inr}
use Rattle.aom_transcript.specs.Sinks.{after}
use Rattle.aom_commands.specs.declared.status.ExitStatus.{ExitStatus}
use Rattle.aom_commands.specs.declared.status.ExitStatus.TheVariants.{Done, Fault as Faulty}
use Rattle.aom_commands.specs.declared.faults.Fault.TheVariants as faults
use Rattle.aom_commands.specs.Headline.{Sent, Sends, Says, IsSilent, ReportsFault, Reported, Accepts, CheckAnswers, WriteFails, Writes, accepted_text}

-- the output failed, and that is told
pub cut : (text : List ℕ) (out errors : Sent) (status : ExitStatus) → out.failed ≡ true → Says text out → Reported faults.Write status errors →
    Sends text status out errors
cut text out errors status failed says reported = inr (reported.0, failed, says, reported.1)

-- it went out whole, or the output failed; so it is with one that was due
module _ (answers : ExitStatus → Type 0) (text : List ℕ) (out errors : Sent) (status : ExitStatus) where
  sent : Sends text status out errors → (out.now ≡ after out.before text → IsSilent errors → answers Done) →
      (out.failed ≡ true → Says text out → ReportsFault faults.Write errors → answers Faulty) → answers status
  sent (inl all) done fails = subst answers (sym all.0) (done all.1 all.2)
  sent (inr part) done fails = subst answers (sym part.0) (fails part.1 part.2 part.3)

  pub due_sent : (Due : List ℕ → Type 0) → Due text → Sends text status out errors → (Writes Due out errors → answers Done) →
      (WriteFails Due out errors → answers Faulty) → answers status
  due_sent Due due sends done fails = sent sends (λ out silent. done (text, due, out, silent))
      (λ failed says reports. fails (record { text = text; due = due; failed = failed; says = says; reports = reports }))

pub checked : (bytes : List ℕ) (out errors : Sent) (status : ExitStatus) → Accepts bytes → Sends accepted_text status out errors →
    CheckAnswers bytes out errors status
checked bytes out errors status accepts sends = search (arith, nat_tests, sent (CheckAnswers bytes out errors))
