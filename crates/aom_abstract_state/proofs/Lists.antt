-- Lists that are read and written at any place agree with slices where the place is within.
use Rattle.std.proofs.Common.{◌≡◌, ◌≢◌, ℕ, zero, suc, ◌<◌, ◌≤◌, List, [], ◌∷◌, length, IsSome, slice_get, refl, ap, arith}
use Rattle.std.specs.Prelude.{slice_index_or, slice_set}
use Rattle.aom_roles.specs.Tables.{at, set_extending}

-- a read within the list is the same whatever stands past its end
pub at_within : {A : Type 0} (d e : A) (xs : List A) (i : ℕ) → i < length xs → slice_index_or xs i e ≡ at d xs i
at_within d e [] i h = absurd (omega arith)
at_within d e (x ∷ xs) zero h = refl
at_within d e (x ∷ xs) (suc i) h = at_within d e xs i (omega arith)

pub put_written : {A : Type 0} (d : A) (xs : List A) (i : ℕ) (v : A) → i < length xs → set_extending d xs i v ≡ slice_set xs i v
put_written d [] i v h = absurd (omega arith)
put_written d (x ∷ xs) zero v h = refl
put_written {A = A} d (x ∷ xs) (suc i) v h = ap (λ (t : List A). x ∷ t) (put_written d xs i v (omega arith))

pub at_set_here : {A : Type 0} (d : A) (xs : List A) (i : ℕ) (v : A) → i < length xs → at d (slice_set xs i v) i ≡ v
at_set_here d [] i v h = absurd (omega arith)
at_set_here d (x ∷ xs) zero v h = refl
at_set_here d (x ∷ xs) (suc i) v h = at_set_here d xs i v (omega arith)

pub at_set_other : {A : Type 0} (d : A) (xs : List A) (i j : ℕ) (v : A) → j ≢ i → at d (slice_set xs i v) j ≡ at d xs j
at_set_other d [] i j v h = refl
at_set_other d (x ∷ xs) zero zero v h = absurd (h refl)
at_set_other d (x ∷ xs) zero (suc j) v h = refl
at_set_other d (x ∷ xs) (suc i) zero v h = refl
at_set_other d (x ∷ xs) (suc i) (suc j) v h = at_set_other d xs i j v (λ e. h (ap suc e))

-- past the end there is the value for what lies there
pub at_past : {A : Type 0} (d : A) (xs : List A) (i : ℕ) → length xs ≤ i → at d xs i ≡ d
at_past d [] i h = refl
at_past d (x ∷ xs) zero h = absurd (omega arith)
at_past d (x ∷ xs) (suc i) h = at_past d xs i (omega arith)

pub there : {A : Type 0} (xs : List A) (k : ℕ) → k < length xs → IsSome (slice_get xs k)
there [] k h = absurd (omega arith)
there (x ∷ xs) zero h = refl
there (x ∷ xs) (suc k) h = there xs k (omega arith)
