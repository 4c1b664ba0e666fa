-- Numbers of natives, each once: how many there may be.
use Rattle.std.specs.Cmp.{IsEquivalence}
use Rattle.std.proofs.lemmas.List.{length-append}
use Rattle.std.proofs.Common.{◌≡◌, ◌≢◌, ◌⊎◌, ℕ, ◌<◌, ◌≤◌, ◌+◌, Bool, true, false, List, [], ◌∷◌, ◌++◌, length, refl, sym, ap, ◌∙◌, inl, inr, arith}
use Rattle.std.specs.Prelude.{◌==◌, ◌||◌}
use Rattle.std.specs.List.{IsDistinct, list_any}
use Rattle.std.proofs.lemmas.Bool.{cases_eq, eq-eqb, ne_eqb, eqb-true}
use Rattle.std.proofs.lemmas.List.Folds.{list_any-append}
use Rattle.std.proofs.lemmas.Map.Keys.{IsDistinct-push}
use Rattle.std.proofs.lemmas.Map.Steps.{length-le_from_distinct_below}
use Rattle.aom_cells.specs.Sessions.{AreNatives}

-- one number is the other just where that is the one
turned : (a b : ℕ) → (a == b) ≡ (b == a)
turned a b = elim (cases_eq a b) [
  | inl same ↦ eq-eqb a b same ∙ sym (eq-eqb b a (sym same))
  | inr other ↦ ne_eqb a b other ∙ sym (ne_eqb b a (λ e. other (sym e)))
]

pub any-turned : (ns : List ℕ) (n : ℕ) → list_any (λ k. k == n) ns ≡ list_any (λ k. n == k) ns
any-turned [] n = refl
any-turned (k ∷ ns) n = ap (λ b. b || list_any (λ k. k == n) ns) (turned k n) ∙ ap (λ b. (n == k) || b) (any-turned ns n)

-- numbers are the same as one another just where the test says so
same_number : IsEquivalence (λ (a b : ℕ). a == b)
same_number = record {
  refl = λ a. eq-eqb a a refl;
  symm = turned;
  congr = λ a b c same. ap (λ x. x == c) (eqb-true a b same);
}

pub no_natives : AreNatives []
unfolding IsDistinct
no_natives = record { once = tt; small = λ n found. absurd (cc) }

module _ (ns : List ℕ) (n : ℕ) (are : AreNatives ns) (small : n < 256) (other : list_any (λ k. k == n) ns ≡ false) where
  -- one more, that was not there
  pub one_more : AreNatives (ns ++ n ∷ [])
  one_more = record {
    once = IsDistinct-push same_number ns n are.once (sym (any-turned ns n) ∙ other);
    small = λ m found. go m (cases_eq m n) (sym (list_any-append (λ k. m == k) ns (n ∷ [])) ∙ found);
  }
    where
      go : (m : ℕ) → (m ≡ n) ⊎ (m ≢ n) → (list_any (λ k. m == k) ns || list_any (λ k. m == k) (n ∷ [])) ≡ true → m < 256
      go m (inl same) found = omega (arith, same, small)
      go m (inr else) found = are.small m (earlier (list_any (λ k. m == k) ns) (ne_eqb m n else) found) where
        earlier : (b : Bool) → (m == n) ≡ false → (b || ((m == n) || false)) ≡ true → b ≡ true
        earlier true apart either = refl
        earlier false apart either = absurd (cc)

  -- so there is room for one more
  pub few : length ns < 256
  few =
      let all : length (ns ++ n ∷ []) ≤ 256 = length-le_from_distinct_below (ns ++ n ∷ []) 256 one_more.once one_more.small in
      let longer : length (ns ++ n ∷ []) ≡ length ns + 1 = length-append ns (n ∷ []) in
      omega (arith, all, longer)
