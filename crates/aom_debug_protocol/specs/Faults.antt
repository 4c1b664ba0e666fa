-- The faults of a debugger, as they are told.
use Rattle.std.specs.Prelude.{ℕ}
use Rattle.aom_debug_protocol.specs.declared.fault.DebugFault.{DebugFault}
use Rattle.aom_debug_protocol.specs.declared.fault.DebugFault.TheVariants.{BadCommand, NoSuch, Ended, OutOfMemory, WriteFault, NotThere}

-- the number of a fault
abbrev pub number_of : DebugFault → ℕ
number_of = elim
    [ BadCommand ↦ 1 | NoSuch ↦ 2 | Ended ↦ 3 | OutOfMemory ↦ 4 | WriteFault ↦ 5 | NotThere ↦ 6 ]
