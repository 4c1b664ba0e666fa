-- What registers own stands in those that a method has.
use Rattle.std.specs.Prelude.{List, [], ◌∷◌}
use Rattle.aom_instructions.specs.Operands.{IsRegister}
use Rattle.aom_semantics.specs.Places.{Place, Register, Entry, Field, Going, Elsewhere, Cell}

-- a register has a number that is in its range
abbrev pub IsInRange : Place → Type 0
IsInRange (Register f i) = IsRegister i
IsInRange (Entry k) = Unit {0}
IsInRange (Field n f) = Unit {0}
IsInRange (Going k) = Unit {0}
IsInRange (Elsewhere o) = Unit {0}

-- each owner that is a register is in its range
abbrev pub AllInRange : List Cell → Type 0
AllInRange [] = Unit {0}
AllInRange (c ∷ cs) = IsInRange c.owner × AllInRange cs
