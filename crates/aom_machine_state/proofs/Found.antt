-- A number is in a list where a search of the ordered copy finds it.
use Rattle.std.proofs.Common.{◌≡◌, ℕ, ◌<◌, ◌≤◌, ◌==◌, false, List, length, get_or, Result, Ok, Err, is_ok, MatchResult, sym, inl, inr, ◌∙◌, arith, eq-eqb}
use Rattle.std.specs.List.{list_any}
use Rattle.std.specs.List.Sorted.{IsPermutation, IsNonDecreasing, IsBinarySearchResult}
use Rattle.std.specs.Ordering.{nat_cmp}
use Rattle.std.proofs.lemmas.Bool.{ne_eqb, cases_lt}
use Rattle.std.proofs.lemmas.List.Elements.{All-from_get_or}
use Rattle.std.proofs.lemmas.List.Folds.{list_any_at, list_any_none}
use Rattle.std.proofs.lemmas.List.Sorted.{list_any-IsPermutation, searched}

ordered_found : (xs : List ℕ) (x : ℕ) (r : Result ℕ ℕ) → MatchResult r (λ i. (i < length xs) × (get_or xs i 0 ≡ x))
    (λ i. (i ≤ length xs) × ((k : ℕ) → k < i → get_or xs k 0 < x) × ((k : ℕ) → i ≤ k → k < length xs → x < get_or xs k 0)) → is_ok r ≡ list_any (λ n. n == x) xs
ordered_found xs x (Ok i) h = sym (list_any_at (λ n. n == x) xs i 0 h.0 (eq-eqb (get_or xs i 0) x h.1))
ordered_found xs x (Err i) h =
    let apart : (k : ℕ) → k < length xs → get_or xs k 0 ≡ x → ⊥ = λ k within is. elim (cases_lt k i) [
      | inr past ↦ let above = h.2 k past within in omega arith
      | inl before ↦ let below = h.1 k before in omega arith
    ] in
    sym (list_any_none (λ n. n == x) xs (All-from_get_or (λ n. (n == x) ≡ false) xs 0 (λ k within. ne_eqb (get_or xs k 0) x (apart k within))))

pub found : (numbers ordered : List ℕ) (x : ℕ) (r : Result ℕ ℕ) →
    IsPermutation numbers ordered → IsNonDecreasing ordered → IsBinarySearchResult (λ y. nat_cmp y x) ordered r → is_ok r ≡ list_any (λ n. n == x) numbers
found numbers ordered x r same rises is =
    ordered_found ordered x r (searched ordered x r is (λ i j. rises i j 0)) ∙ sym (list_any-IsPermutation (λ n. n == x) numbers ordered same)
