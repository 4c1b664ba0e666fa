-- Lines of warnings one behind the other, and what the status answers of them.
use Rattle.std.proofs.Common.{◌≡◌, ◌<◌, ◌+◌, ◌++◌, ◌∙◌, ℕ, suc, zero, List, [], ◌∷◌, Ok, Err, OnOk, Result, decimal, ap, arith, append_assoc, inl, inr, length, refl, slice_index_or, subst, sym, take}
use Rattle.std.proofs.Math.Seq.{take-suc}
use Rattle.std.proofs.lemmas.List.{append-nil}
use Rattle.aom_image.specs.Image.{Image}
use Rattle.aom_image.specs.WellFormed.{WellFormed}
use Rattle.aom_codec.specs.Serialization.{serialize}
use Rattle.aom_warnings.specs.Warnings.{AreAll}
use Rattle.aom_warnings.specs.declared.warning.Warning.{Warning}
use Rattle.aom_commands.specs.Assembly.{RefusesBytes}
use Rattle.aom_commands.specs.Headline.{IsSilent, Reported, Sends, Sent}
use Rattle.aom_commands.specs.Unreported.{Unreported}
use Rattle.aom_commands.specs.declared.faults.Fault.{Fault}
use Rattle.aom_commands.specs.declared.status.ExitStatus.{ExitStatus}
use Rattle.aom_diagnostic_commands.specs.Warned.{IsWarned, WarnsBy, warning_lines}

lines_behind : {A : Type 0} (line : A → List ℕ) (xs : List A) (x : A) → warning_lines line (xs ++ x ∷ []) ≡ warning_lines line xs ++ line x
lines_behind line [] x = append-nil (line x)
lines_behind line (y ∷ ys) x = ap (λ text. line y ++ text) (lines_behind line ys x) ∙ sym (append_assoc (line y) (warning_lines line ys) (line x))

-- words and a number behind a text
pub numbered_behind : {A E : Type 0} (found : Result A E) (out now words : List ℕ) (n k : ℕ) → n ≡ k → OnOk found (now ≡ (out ++ words) ++ decimal n) →
    OnOk found (now ≡ out ++ (words ++ decimal k))
numbered_behind (Ok done) out now words n k same h = h ∙ append_assoc out words (decimal n) ∙ ap (λ j. out ++ (words ++ decimal j)) same
numbered_behind (Err e) out now words n k same h = h

-- a list has one item at a place, whatever stands for those that it lacks
pub one_there : {A : Type 0} (xs : List A) (i : ℕ) (one other : A) → i < length xs → slice_index_or xs i one ≡ slice_index_or xs i other
one_there [] i one other below = absurd (omega (arith, below))
one_there (x ∷ xs) zero one other below = refl
one_there (x ∷ xs) (suc i) one other below = one_there xs i one other (omega (arith, below))

-- one line more
pub line_more : {A : Type 0} (line : A → List ℕ) (ws : List A) (i : ℕ) (w : A) (before now text : List ℕ) → i < length ws → w ≡ slice_index_or ws i w →
    now ≡ before ++ warning_lines line (take i ws) → text ≡ now ++ line w → text ≡ before ++ warning_lines line (take (i + 1) ws)
line_more line ws i w before now text within is so_far added =
    let more : i + 1 ≡ suc i = omega arith in
    let grown : take (i + 1) ws ≡ take i ws ++ w ∷ [] = ap (λ n. take n ws) more ∙ take-suc ws i w within ∙ ap (λ x. take i ws ++ x ∷ []) (sym is) in
    let lines : warning_lines line (take (i + 1) ws) ≡ warning_lines line (take i ws) ++ line w =
    ap (warning_lines line) grown ∙ lines_behind line (take i ws) w in
    added ∙ ap (λ t. t ++ line w) so_far ∙ append_assoc before (warning_lines line (take i ws)) (line w) ∙ ap (λ t. before ++ t) (sym lines)

pub warned : (line : Warning → List ℕ) (bytes text : List ℕ) (p : Image) (ws : List Warning) → WellFormed p → bytes ≡ serialize p → AreAll p ws →
    text ≡ warning_lines line ws → IsWarned line bytes text
warned line bytes text p ws formed serialization all told = record {
  image = p;
  serialized = record { formed = formed; serialization = serialization };
  warnings = ws;
  all = all;
  told = told;
}

-- what was sent, and a fault of the bytes
pub warns : (line : Warning → List ℕ) (bytes text : List ℕ) (out errors : Sent) (status : ExitStatus) → IsWarned line bytes text → Sends text status out errors →
    WarnsBy line bytes out errors status
warns line bytes text out errors status is (inl all) = subst (WarnsBy line bytes out errors) (sym all.0) (text, is, all.1, all.2)
warns line bytes text out errors status is (inr part) =
    subst (WarnsBy line bytes out errors) (sym part.0) (inr (record { text = text; due = is; failed = part.1; says = part.2; reports = part.3 }))

pub unwarned : (line : Warning → List ℕ) (bytes : List ℕ) (fault : Fault) (out errors : Sent) (status : ExitStatus) → RefusesBytes bytes fault → IsSilent out →
    Reported fault status errors → WarnsBy line bytes out errors status
unwarned line bytes fault out errors status refuses silent reported = grind arith

pub follows : (one other : Sent → ExitStatus → Type 0) (found : Result ExitStatus Fault) →
    ((errors : Sent) (status : ExitStatus) → one errors status → other errors status) → Unreported one found → Unreported other found
follows one other (Ok status) leads answered = λ errors silent. leads errors status (answered errors silent)
follows one other (Err fault) leads answered = λ errors status reported. leads errors status (answered errors status reported)
