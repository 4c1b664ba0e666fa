-- The place of a name among names that are lent is that among the names.
use Rattle.std.proofs.Common.{◌≡◌, ◌∙◌, ◌+◌, ℕ, List, [], ◌∷◌, Some, None, ap, cond, length, nat_lt, not, refl, sym}
use Rattle.std.proofs.lemmas.List.{length-map}
use Rattle.std.specs.Borrow.{Bor}
use Rattle.std.specs.List.{position, position_or_len}
use Rattle.std.specs.Str.{bytes_eq}
use Rattle.aom_transcript.specs.Naming.{borrowed}

-- as many stand before it
as_far : (name : List ℕ) (names : List (Bor (List ℕ))) →
    position_or_len (λ (n : Bor (List ℕ)). bytes_eq n.now name) names ≡ position_or_len (λ other. bytes_eq other name) (borrowed names)
as_far name [] = refl
as_far name (n ∷ names) = ap (λ k. cond (not (bytes_eq n.now name)) (1 + k) 0) (as_far name names)

pub position_lent : (name : List ℕ) (names : List (Bor (List ℕ))) →
    position (λ (n : Bor (List ℕ)). bytes_eq n.now name) names ≡ position (λ other. bytes_eq other name) (borrowed names)
position_lent name names = ap (λ k. cond (nat_lt k (length names)) (Some k) None) (as_far name names)
    ∙ ap (λ l. cond (nat_lt (position_or_len (λ other. bytes_eq other name) (borrowed names)) l)
    (Some (position_or_len (λ other. bytes_eq other name) (borrowed names))) None) (sym (length-map names (λ (n : Bor (List ℕ)). n.now)))
