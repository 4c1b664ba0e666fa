-- The faults of a text, as they are told.
use Rattle.std.specs.Prelude.{ℕ}
use Rattle.aom_text.specs.declared.fault.AsmFaultKind.{AsmFaultKind}
use Rattle.aom_text.specs.declared.fault.AsmFaultKind.TheVariants.{NotAscii, UnknownWord, BadNumber, UnknownName, DoubleName, BadShape, LimitPassed, OutOfMemory}

-- the number of a fault
abbrev pub number_of : AsmFaultKind → ℕ
number_of = elim
    [ NotAscii ↦ 1 | UnknownWord ↦ 2 | BadNumber ↦ 3 | UnknownName ↦ 4 | DoubleName ↦ 5 | BadShape ↦ 6 | LimitPassed ↦ 7 | OutOfMemory ↦ 8 ]
