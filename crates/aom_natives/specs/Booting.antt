-- Why boxes and an image do not boot.
use Rattle.std.specs.Prelude.{ℕ}
use Rattle.aom_natives.specs.declared.fault.BootFault.{BootFault}
use Rattle.aom_natives.specs.declared.fault.BootFault.TheVariants.{OutOfMemory, TooFewNatives}

-- the number by which a fault is printed
abbrev pub fault_number : BootFault → ℕ
fault_number TooFewNatives = 1
fault_number OutOfMemory = 2
