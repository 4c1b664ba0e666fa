-- What two lists say that are paired.
use Rattle.std.proofs.Common.{List, [], ◌∷◌}
use Rattle.aom_asm_semantics.specs.Meaning.{Pairwise}

pub data Pairs {A B : Type 0} (R : A → B → Type 0) : List A → List B → Type 0 where
  no_pair : Pairs R [] []
  a_pair : (x : A) (xs : List A) (y : B) (ys : List B) → R x y → Pairs R xs ys → Pairs R (x ∷ xs) (y ∷ ys)

pub pairs : {A B : Type 0} (R : A → B → Type 0) (xs : List A) (ys : List B) → Pairwise R xs ys → Pairs R xs ys
pairs R [] [] each = no_pair
pairs R (x ∷ xs) (y ∷ ys) each = a_pair x xs y ys each.0 (pairs R xs ys each.1)
pairs R _ _ each = absurd each
