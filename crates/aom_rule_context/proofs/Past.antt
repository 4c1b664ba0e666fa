-- The fields past so many are read one after the other: by an induction over the fields before them.
use Rattle.std.proofs.Common.{◌≡◌, ◌<◌, ◌≤◌, ◌&&◌, ℕ, zero, suc, true, List, [], ◌∷◌, length, slice_index_or, refl, arith}
use Rattle.aom_image.specs.declared.method.Thing.{Thing}
use Rattle.aom_abstract_state.specs.Kinds.{is_empty}
use Rattle.aom_roles.specs.Tables.{at}
use Rattle.aom_abstract_state.specs.declared.kind.FieldState.{FieldState}
use Rattle.aom_abstract_state.specs.declared.kind.FieldState.TheVariants.{Perhaps}
use Rattle.aom_typing_rules.specs.Calls.{empty_past}

pub past_step : (k : ℕ) (ts : List Thing) (xs : List FieldState) → k < length ts → empty_past k ts xs ≡ (is_empty (at Perhaps xs k) && empty_past (suc k) ts xs)
past_step zero (t ∷ ts) [] lt = refl
past_step zero (t ∷ ts) (x ∷ xs) lt = refl
past_step (suc k) (t ∷ ts) [] lt = past_step k ts [] (omega arith)
past_step (suc k) (t ∷ ts) (x ∷ xs) lt = past_step k ts xs (omega arith)
past_step _ [] xs lt = absurd (omega arith)

pub past_over : (k : ℕ) (ts : List Thing) (xs : List FieldState) → length ts ≤ k → empty_past k ts xs ≡ true
past_over zero [] xs le = refl
past_over (suc k) [] xs le = refl
past_over (suc k) (t ∷ ts) [] le = past_over k ts [] (omega arith)
past_over (suc k) (t ∷ ts) (x ∷ xs) le = past_over k ts xs (omega arith)
past_over zero (t ∷ ts) xs le = absurd (omega arith)

-- what is read at a number
pub filling_there : (xs : List FieldState) (i : ℕ) (x : FieldState) → i < length xs → x ≡ slice_index_or xs i x → x ≡ at Perhaps xs i
filling_there [] i x lt e = absurd (omega arith)
filling_there (y ∷ xs) zero x lt e = e
filling_there (y ∷ xs) (suc i) x lt e = filling_there xs i x (omega arith) e

pub filling_past : (xs : List FieldState) (i : ℕ) → length xs ≤ i → at Perhaps xs i ≡ Perhaps
filling_past [] i le = refl
filling_past (y ∷ xs) zero le = absurd (omega arith)
filling_past (y ∷ xs) (suc i) le = filling_past xs i (omega arith)
