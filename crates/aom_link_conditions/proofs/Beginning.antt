-- A list that begins with what another has, and is no longer, is that one.
use Rattle.std.proofs.lemmas.Bool.Decides.{nat_tests}
use Rattle.std.proofs.Common.{◌≡◌, ◌≤◌, ◌∷◌, suc, List, [], length, ap, ◌∙◌, refl, arith}
use Rattle.aom_link_conditions.specs.Families.{BeginsWith}

pub begins_whole : {X : Type 0} (xs ys : List X) → BeginsWith xs ys → length xs ≤ length ys → xs ≡ ys
begins_whole [] [] h le = refl
begins_whole [] (y ∷ ys) h le = let none = h 0 in cc
begins_whole (x ∷ xs) [] h le = absurd (omega (arith, le))
begins_whole (x ∷ xs) (y ∷ ys) h le =
    let first : x ≡ y = (let here = h 0 in cc) in
    ap (λ z. z ∷ xs) first ∙ ap (λ zs. y ∷ zs) (begins_whole xs ys (λ i. h (suc i)) (omega (arith, le)))

pub begins_itself : {X : Type 0} (xs : List X) → BeginsWith xs xs
begins_itself xs i = grind (arith, nat_tests)
