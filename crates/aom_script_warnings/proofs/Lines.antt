-- The lines so far, and those that are left.
use Rattle.std.proofs.Common.{◌≡◌, ◌∙◌, ℕ, ◌+◌, ◌++◌, List, ◌∷◌, ap, append_assoc, sym}
use Rattle.aom_image.specs.Image.{Image}
use Rattle.aom_text.specs.Words.{words}
use Rattle.aom_script_warnings.specs.Warned.{class_in, warning_of, warnings_from}
use Rattle.aom_script_warnings.specs.declared.warned.NoServer.{NoServer}

-- what was found and what is left are all
abbrev pub IsAllOf : Image → (found : List NoServer) → (number : ℕ) → (left all : List (List ℕ)) → Type 0
IsAllOf p found number left all = found ++ warnings_from p (number + 1) left ≡ warnings_from p 1 all

pub one_more : (p : Image) (found new : List NoServer) (number : ℕ) (line : List ℕ) (left all : List (List ℕ)) → IsAllOf p found number (line ∷ left) all →
    new ≡ found ++ warning_of p (number + 1) (class_in (words line)) → IsAllOf p new (number + 1) left all
one_more p found new number line left all so put =
    ap (λ (xs : List NoServer). xs ++ warnings_from p (number + 1 + 1) left) put
    ∙ append_assoc found (warning_of p (number + 1) (class_in (words line))) (warnings_from p (number + 1 + 1) left)
    ∙ so
