-- What stands over as many members of two lists that stand for each other, shown from the last one on.
use Rattle.std.proofs.lemmas.Bool.Decides.{nat_tests}
use Rattle.std.proofs.Common.{arith, ◌≡◌, ℕ, cond, ◌==◌, List, [], ◌∷◌, length, Option, Some, None}
use Rattle.aom_semantics.specs.Owned.{over}

-- one on each side, and the two stand for each other, or none on either
abbrev pub BothOver : {A B : Type 0} → (A → B → Type 0) → Option A → Option B → Type 0
BothOver Same None None = Unit {0}
BothOver Same (Some a) (Some b) = Same a b
BothOver Same _ _ = ⊥

-- so with a member more on each side
pub one_over : {A B : Type 0} (Same : A → B → Type 0) (a : A) (b : B) (k : ℕ) (xs : List A) (ys : List B) →
    Same a b → length xs ≡ length ys → BothOver Same (over xs k) (over ys k) → BothOver Same (over (a ∷ xs) k) (over (b ∷ ys) k)
one_over Same a b k xs ys same long below = grind (arith, nat_tests)

-- what is read of the member over as many, if there is one
abbrev pub read_over : {A R : Type 0} → (A → R) → R → Option A → R
read_over read none None = none
read_over read none (Some x) = read x

-- so reads what goes through the list
pub read_there : {A R : Type 0} (read : A → R) (none : R) (through : List A → R) (k : ℕ) → through [] ≡ none →
    ((x : A) (xs : List A) → through (x ∷ xs) ≡ cond (length xs == k) (read x) (through xs)) → (xs : List A) → through xs ≡ read_over read none (over xs k)
read_there read none through k empty more [] = empty
read_there read none through k empty more (x ∷ xs) = grind (arith, read_there read none through k empty more xs)
