-- What holds of each name so far, and of the next.
use Rattle.std.proofs.Common.{◌≡◌, ◌∙◌, ◌<◌, ◌≤◌, ◌⊎◌, inl, inr, List, ℕ, ◌+◌, ap, arith, subst, get_or, length}
use Rattle.std.proofs.lemmas.Bool.{cases_lt}
use Rattle.std.proofs.lemmas.List.{get_or_default}
use Rattle.aom_source_code.specs.declared.code.NamedRegister.{NamedRegister}

of_one_more : (P : NamedRegister → Type 0) (xs : List NamedRegister) (n i : ℕ) (d e : NamedRegister) → n < length xs
    → ((i : ℕ) (d : NamedRegister) → i < n → P (get_or xs i d)) → P (get_or xs n e) → i < n + 1 → (i < n) ⊎ (n ≤ i) → P (get_or xs i d)
of_one_more P xs n i d e more before next within (inl below) = before i d below
of_one_more P xs n i d e more before next within (inr beyond) =
    let same : n ≡ i = grind arith in
    subst P (get_or_default xs n e d more ∙ ap (λ k. get_or xs k d) same) next

pub one_more : (P : NamedRegister → Type 0) (xs ys : List NamedRegister) (n : ℕ) (e : NamedRegister) → ys ≡ xs → n < length xs
    → ((i : ℕ) (d : NamedRegister) → i < n → P (get_or xs i d)) → P (get_or ys n e) → (i : ℕ) (d : NamedRegister) → i < n + 1 → P (get_or xs i d)
one_more P xs ys n e is more before next i d within =
    of_one_more P xs n i d e more before (subst (λ s. P (get_or s n e)) is next) within (cases_lt i n)
