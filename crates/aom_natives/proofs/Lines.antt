-- What a full queue makes of one more word.
use Rattle.std.proofs.Common.{◌≡◌, ℕ, List, [], ◌∷◌, ◌++◌, length, take, sym, ap, ◌∙◌, arith}
use Rattle.std.proofs.lemmas.List.{take-append-le}
use Rattle.std.proofs.Math.Seq.{take-length}

pub take-full : {X : Type 0} (n : ℕ) (xs : List X) (x : X) → length xs ≡ n → xs ≡ take n (xs ++ x ∷ [])
take-full n xs x full = sym (take-append-le n xs (x ∷ []) (omega (arith, full)) ∙ ap (λ k. take k xs) (sym full) ∙ take-length xs)
