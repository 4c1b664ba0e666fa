-- The faults of an image's bytes, by their numbers.
use Rattle.std.specs.Prelude.{ℕ}
use Rattle.aom_codec.specs.declared.fault.LoadFault.{LoadFault}
use Rattle.aom_codec.specs.declared.fault.LoadFault.TheVariants.{BadMagic, BadVersion, Truncated, Trailing, LimitPassed, BadOpcode, BadOperand, BadIndex, NotZero, OutOfMemory}

abbrev pub fault_number : LoadFault → ℕ
fault_number = elim
    [ BadMagic ↦ 1 | BadVersion ↦ 2 | Truncated ↦ 3 | Trailing ↦ 4 | LimitPassed ↦ 5 | BadOpcode ↦ 6 | BadOperand ↦ 7 | BadIndex ↦ 8 | NotZero ↦ 9 | OutOfMemory ↦ 10 ]
