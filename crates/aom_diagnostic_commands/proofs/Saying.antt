-- An explanation that was made, or was not, and what went out of it.
use Rattle.std.proofs.Common.{ℕ, ◌≡◌, List, Result, Ok, Err, subst, sym}
use Rattle.std.specs.Prelude.{IfErr, IfOk}
use Rattle.aom_commands.specs.Headline.{Says, Sent, ReportsFault}
use Rattle.aom_commands.specs.declared.faults.Fault.TheVariants.{Memory}
use Rattle.aom_diagnostic_commands.specs.Explaining.{IsExplained}
use Rattle.aom_diagnostic_commands.specs.Explaining.IsExplained.{explained, wants_memory}

pub said_or_reported : {X E : Type 0} (made : Result X E) (items : X → List ℕ) (explains : List ℕ → Type 0) (errors : Sent) → IfOk made (λ v. explains (items v)) →
    IfOk made (λ v. Says (items v) errors) → IfErr made (λ e. ReportsFault Memory errors) → IsExplained explains errors
said_or_reported (Ok v) items explains errors right says reports = explained (items v) right says
said_or_reported (Err e) items explains errors right says reports = wants_memory reports

-- ---- what went out, by what was made

pub says_same : (text said : List ℕ) (errors : Sent) → text ≡ said → Says text errors → Says said errors
says_same text said errors same = subst (λ t. Says t errors) same

module _ {X E : Type 0} (made : Result X E) where
  pub made_ok : (v : X) (P : X → Type 0) → made ≡ Ok v → P v → IfOk made P
  made_ok v P is holds = subst (λ r. IfOk r P) (sym is) holds

  pub made_no_err : (v : X) (P : E → Type 0) → made ≡ Ok v → IfErr made P
  made_no_err v P is = subst (λ r. IfErr r P) (sym is) tt

  pub failed_err : (e : E) (P : E → Type 0) → made ≡ Err e → P e → IfErr made P
  failed_err e P is holds = subst (λ r. IfErr r P) (sym is) holds

  pub failed_no_ok : (e : E) (P : X → Type 0) → made ≡ Err e → IfOk made P
  failed_no_ok e P is = subst (λ r. IfOk r P) (sym is) tt
