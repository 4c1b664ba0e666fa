-- The faults of a script, as they are told.
use Rattle.std.specs.Prelude.{ℕ}
use Rattle.aom_script.specs.declared.fault.ScriptFaultKind.{ScriptFaultKind}
use Rattle.aom_script.specs.declared.fault.ScriptFaultKind.TheVariants.{NotAscii, BadLine, BadNumber, TimeBack, LimitPassed, OutOfMemory}

-- the number of a fault
abbrev pub number_of : ScriptFaultKind → ℕ
number_of = elim
    [ NotAscii ↦ 1 | BadLine ↦ 2 | BadNumber ↦ 3 | TimeBack ↦ 4 | LimitPassed ↦ 5 | OutOfMemory ↦ 6 ]
