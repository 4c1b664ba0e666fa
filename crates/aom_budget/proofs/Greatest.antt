-- The greatest number of some methods, by the methods listed and by what counts.
use Rattle.std.proofs.lemmas.Bool.Decides.{nat_tests}
use Rattle.std.proofs.Common.{Bool, List, Some, [], ap₂, arith, inl, inr, length, refl, replicate, slice_set, suc, sym, true, zero, ℕ, ◌++◌, ◌<◌, ◌∷◌, ◌≡◌, ◌≤◌}
use Rattle.std.specs.Prelude.{max}
use Rattle.std.proofs.lemmas.Bool.Decides.{eqb_tells}
use Rattle.aom_image.specs.Image.{Image}
use Rattle.aom_roles.specs.Tables.{at}
use Rattle.aom_budget.proofs.AbstractStateLemmas.{at_set_here, at_set_other}
use Rattle.aom_static_bounds.specs.Calls.{Among, bodies, each_below, each_of}
use Rattle.aom_static_bounds.specs.Layers.{MayRun}
use Rattle.aom_static_bounds.specs.Most.{most_below, most_of, most_run}
use Rattle.aom_budget.proofs.StaticBoundsLemmas.{among_either}
use Rattle.aom_budget.specs.Greatest.{most_at}
use Rattle.aom_budget.proofs.Keeping.{at_zeros_only}

-- ---- of lists

pub most_append : (ns xs ys : List ℕ) → most_at ns (xs ++ ys) ≡ max (most_at ns xs) (most_at ns ys)
most_append ns [] ys = omega arith
most_append ns (x ∷ xs) ys = let rest = most_append ns xs ys in omega (arith, rest)

pub most_of_zeros_only : (n : ℕ) (xs : List ℕ) → most_at (replicate n 0) xs ≡ 0
most_of_zeros_only n [] = refl
most_of_zeros_only n (x ∷ xs) = let here = at_zeros_only n x in let rest = most_of_zeros_only n xs in omega (arith, here, rest)

-- ---- where one number is set

module _ (ns : List ℕ) (m v : ℕ) where
  pub most_other : (xs : List ℕ) → (Among m xs → ⊥) → most_at (slice_set ns m v) xs ≡ most_at ns xs
  most_other [] none = refl
  most_other (x ∷ xs) none = ap₂ max (at_set_other 0 ns m x v (λ same. none (inl (sym same)))) (most_other xs (λ h. none (inr h)))

  module _ (within : m < length ns) (low : at 0 ns m ≤ v) where
    grows_at : (x : ℕ) → at 0 ns x ≤ at 0 (slice_set ns m v) x
    grows_at x = grind (arith, nat_tests, eqb_tells x m, at_set_here 0 ns m v within, at_set_other 0 ns m x v)

    pub most_grows : (xs : List ℕ) → most_at ns xs ≤ most_at (slice_set ns m v) xs
    most_grows [] = omega arith
    most_grows (x ∷ xs) = let here = grows_at x in let rest = most_grows xs in omega (arith, here, rest)

    set_within : (x : ℕ) → at 0 (slice_set ns m v) x ≤ max (at 0 ns x) v
    set_within x = grind (arith, nat_tests, eqb_tells x m, at_set_here 0 ns m v within, at_set_other 0 ns m x v)

    most_within : (xs : List ℕ) → most_at (slice_set ns m v) xs ≤ max (most_at ns xs) v
    most_within [] = omega arith
    most_within (x ∷ xs) = let here = set_within x in let rest = most_within xs in omega (arith, here, rest)

    most_reached : (xs : List ℕ) → Among m xs → v ≤ most_at (slice_set ns m v) xs
    most_reached [] h = absurd h
    most_reached (x ∷ xs) (inl same) = grind (arith, nat_tests, at_set_here 0 ns m v within)
    most_reached (x ∷ xs) (inr h) = let rest = most_reached xs h in omega (arith, rest)

    pub most_set : (xs : List ℕ) → Among m xs → most_at (slice_set ns m v) xs ≡ max (most_at ns xs) v
    most_set xs h = grind (arith, nat_tests, most_within xs, most_grows xs, most_reached xs h)

-- ---- by what counts

each_most : (ns : List ℕ) (counts : ℕ → Bool) (f : ℕ → List ℕ) (n : ℕ) → most_at ns (each_of counts f n) ≡ most_of counts (λ k. most_at ns (f k)) n
each_most ns counts f zero = refl
each_most ns counts f (suc n) = grind (arith, nat_tests, most_append ns, each_most ns counts f n)

pub below_most : (p : Image) (ns : List ℕ) (f : ℕ → List ℕ) (c : ℕ) → most_at ns (each_below p f (Some c)) ≡ most_below p (λ y. most_at ns (f y)) c
below_most p ns f c = grind (arith, nat_tests, most_append ns (f c), each_most ns)

of_one : (ns : List ℕ) (counts : ℕ → Bool) (n : ℕ) → most_of counts (λ k. most_at ns (k ∷ [])) n ≡ most_of counts (at 0 ns) n
of_one ns counts zero = refl
of_one ns counts (suc n) = grind (arith, nat_tests, of_one ns counts n)

pub bodies_most : (p : Image) (ns : List ℕ) (k : ℕ) → most_at ns (bodies p k) ≡ most_run p (at 0 ns) k
bodies_most p ns k = grind (arith, nat_tests, each_most ns, of_one ns)

-- ---- what is listed of a call

each_counts : (counts : ℕ → Bool) (n k : ℕ) → Among k (each_of counts (λ j. j ∷ []) n) → counts k ≡ true
each_counts counts zero k h = absurd h
each_counts counts (suc n) k h = grind (arith, nat_tests, among_either k, each_counts counts n k)

pub run_from : (p : Image) (j k : ℕ) → Among k (bodies p j) → MayRun p j k
run_from p j k x = grind (arith, nat_tests, each_counts)
