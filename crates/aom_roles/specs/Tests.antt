-- Tests in the order in which they are made, each with what it is for.
use Rattle.std.specs.Prelude.{Bool, true, false, ◌≡◌, List, [], ◌∷◌}

-- a need that is asked only where the first holds
abbrev pub only_if : Bool → Bool → Bool
only_if true b = b
only_if false b = true

abbrev pub AllTrue : {W : Type 0} → List (Bool × W) → Type 0
AllTrue [] = Unit {0}
AllTrue (need ∷ needs) = (need.0 ≡ true) × AllTrue needs
