-- The first of some bytes.
use Rattle.std.proofs.Common.{◌≡◌, List, ℕ, length, min, take}
use Rattle.std.proofs.lemmas.List.{take_min}

pub cut : (most : ℕ) (name : List ℕ) → take (min most (length name)) name ≡ take most name
cut most name = take_min most name
