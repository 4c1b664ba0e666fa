-- There is just one list of the enlisted objects in the order of choice: of two such lists the first names are the same, and so are the rests.
use Rattle.std.proofs.lemmas.Bool.Decides.{nat_tests}
use Rattle.std.proofs.Common.{◌≡◌, ◌∙◌, ◌⊎◌, ℕ, suc, List, [], ◌∷◌, Option, IsSome, refl, sym, ap, subst, arith}
use Rattle.std.specs.List.{Contains}
use Rattle.std.specs.Prelude.{AllPairs}
use Rattle.aom_active_objects.specs.Agrees.{GoesBefore}
use Rattle.aom_debug_views.proofs.SchedulerLemmas.{pairs-head, pairs-tail}
use Rattle.aom_semantics.specs.Places.{Cell, Request, requested}
use Rattle.aom_debug_views.specs.Actives.{InOrderOfChoice}

-- ---- names on a list

at_first : (x : ℕ) (xs : List ℕ) → Contains (x ∷ xs) x
at_first x xs = (0, omega arith, refl)

further : (x n : ℕ) (xs : List ℕ) → Contains xs n → Contains (x ∷ xs) n
further x n xs h = let within = h.1 in (suc h.0, omega (arith, within), h.2)

first_or_later : (x n : ℕ) (xs : List ℕ) → Contains (x ∷ xs) n → (x ≡ n) ⊎ Contains xs n
first_or_later x n xs h = grind (arith, nat_tests)

none_there : (n : ℕ) → Contains [] n → ⊥
none_there n h = let within = h.1 in absurd (omega (arith, within))

-- ---- one order

module _ (Before : ℕ → ℕ → Type 0) (apart : (n m : ℕ) → Before n m → Before m n → ⊥) where
  goes_first : (x n : ℕ) (xs : List ℕ) → AllPairs Before (x ∷ xs) → Contains xs n → Before x n
  goes_first x n xs pairs h = subst (Before x) h.2 (pairs-head Before x xs pairs h.0 n h.1)

  same_first : (x y : ℕ) (xs ys : List ℕ) → AllPairs Before (x ∷ xs) → AllPairs Before (y ∷ ys) → Contains (y ∷ ys) x → Contains (x ∷ xs) y → x ≡ y
  same_first x y xs ys one other here there = grind (arith, goes_first x y xs one, goes_first y x ys other)

  -- who comes later on one comes later on the other
  later_too : (x y n : ℕ) (xs ys : List ℕ) → x ≡ y → AllPairs Before (x ∷ xs) → Contains xs n → Contains (y ∷ ys) n → Contains ys n
  later_too x y n xs ys same pairs here there = grind (arith, goes_first x n xs pairs here)

  one_order : (xs ys : List ℕ) → AllPairs Before xs → AllPairs Before ys → ((n : ℕ) → Contains xs n → Contains ys n) →
      ((n : ℕ) → Contains ys n → Contains xs n) → xs ≡ ys
  one_order [] [] one other there here = refl
  one_order [] (y ∷ ys) one other there here = absurd (none_there y (here y (at_first y ys)))
  one_order (x ∷ xs) [] one other there here = absurd (none_there x (there x (at_first x xs)))
  one_order (x ∷ xs) (y ∷ ys) one other there here =
      let same = same_first x y xs ys one other (there x (at_first x xs)) (here y (at_first y ys)) in
      let rests = one_order xs ys (pairs-tail Before x xs one) (pairs-tail Before y ys other)
      (λ n h. later_too x y n xs ys same one h (there n (further x n xs h))) (λ n h. later_too y x n ys xs (sym same) other h (here n (further y n ys h))) in
      ap (λ n. n ∷ xs) same ∙ ap (λ l. y ∷ l) rests

-- ---- of requests

apart_by : (r q : Option Request) → GoesBefore r q → GoesBefore q r → ⊥
apart_by r q one other = grind arith

pub orders_are_one : (cs : List Cell) (names others : List ℕ) → InOrderOfChoice cs names → InOrderOfChoice cs others → names ≡ others
orders_are_one cs names others one other = one_order (λ n m. GoesBefore (requested cs n) (requested cs m)) (λ n m. apart_by (requested cs n) (requested cs m))
    names others one.order other.order (λ n h. other.all n (subst (λ m. IsSome (requested cs m)) h.2 (one.enlisted h.0 n h.1)))
    (λ n h. one.all n (subst (λ m. IsSome (requested cs m)) h.2 (other.enlisted h.0 n h.1)))
