-- Lists that are read and written at any place, with a value for what lies past their end.
use Rattle.std.specs.Prelude.{ℕ, zero, suc, List, [], ◌∷◌, Bool, nat_le, nat_lt, ◌&&◌, ◌+◌}

-- the value at a place
abbrev pub at : {A : Type 0} → A → List A → ℕ → A
at d [] i = d
at d (x ∷ xs) zero = x
at d (x ∷ xs) (suc i) = at d xs i

-- the list with another value there, made longer where that is needed
abbrev pub set_extending : {A : Type 0} → A → List A → ℕ → A → List A
set_extending d [] zero v = v ∷ []
set_extending d [] (suc i) v = d ∷ set_extending d [] i v
set_extending d (x ∷ xs) zero v = v ∷ xs
set_extending d (x ∷ xs) (suc i) v = x ∷ set_extending d xs i v

-- the register is one of so many from the first on
abbrev pub is_among : ℕ → ℕ → ℕ → Bool
is_among first count r = nat_le first r && nat_lt r (first + count)
