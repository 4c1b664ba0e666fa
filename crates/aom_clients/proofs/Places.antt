-- The node of a list behind so many others: the first, and after it the one that comes next, since no node comes twice.
use Rattle.std.proofs.lemmas.Bool.Decides.{nat_tests}
use Rattle.std.proofs.Common.{◌≡◌, ◌==◌, ◌∙◌, ℕ, zero, suc, List, [], ◌∷◌, Option, Some, refl, inl, inr, arith}
use Rattle.std.specs.Prelude.{IfSome, slice_get}
use Rattle.std.proofs.lemmas.Bool.{cond-true, eq-eqb, ne_eqb}
use Rattle.std.proofs.lemmas.Option.{none-some, same_Some}
use Rattle.aom_clients.specs.Lists.{IsIn, IsOnce, after_node, first_of}

pub at-first : (xs : List ℕ) → first_of xs ≡ slice_get xs 0
at-first [] = refl
at-first (x ∷ xs) = refl

pub at-in : (xs : List ℕ) (k n : ℕ) → slice_get xs k ≡ Some n → IsIn n xs
at-in [] k n is = absurd (none-some n is)
at-in (x ∷ xs) zero n is = inl (same_Some x n is)
at-in (x ∷ xs) (suc k) n is = inr (at-in xs k n is)

-- what is told to stand there is in the list
pub all-in : (xs : List ℕ) (k : ℕ) (o : Option ℕ) → o ≡ slice_get xs k → IfSome o (λ n. IsIn n xs)
all-in xs k x is = grind (arith, nat_tests, at-in xs k)

-- the next after the one behind so many others is behind one more
pub at-next : (xs : List ℕ) (k n : ℕ) → IsOnce xs → slice_get xs k ≡ Some n → after_node n xs ≡ slice_get xs (suc k)
at-next [] k n once is = refl
at-next (x ∷ xs) zero n once is = cond-true (x == n) (first_of xs) (after_node n xs) (eq-eqb x n (same_Some x n is)) ∙ at-first xs
at-next (x ∷ xs) (suc k) n once is = grind (arith, ne_eqb, at-next xs k n once.1 is, at-in)
