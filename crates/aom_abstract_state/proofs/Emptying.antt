-- Whether the fillings of the fields that a class declares are empty.
use Rattle.std.proofs.Common.{◌≡◌, ◌<◌, true, false, List, [], ◌∷◌, length, refl, arith}
use Rattle.std.proofs.Math.Bool.{and-false}
use Rattle.aom_image.specs.declared.method.Thing.{Thing}
use Rattle.aom_abstract_state.specs.Kinds.{all_empty, is_empty}
use Rattle.aom_abstract_state.specs.declared.kind.FieldState.{FieldState}

pub too_few : (ts : List Thing) (xs : List FieldState) → length xs < length ts → all_empty ts xs ≡ false
too_few [] xs h = absurd (omega arith)
too_few (t ∷ ts) [] h = refl
too_few (t ∷ ts) (x ∷ xs) h = rw (too_few ts xs (omega arith)) (and-false (is_empty x))

pub none_left : (ts : List Thing) (xs : List FieldState) → length ts ≡ 0 → all_empty ts xs ≡ true
none_left [] xs h = refl
none_left (t ∷ ts) xs h = absurd (omega arith)
