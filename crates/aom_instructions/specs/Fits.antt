-- Which instructions have operands in their ranges.
use Rattle.std.specs.Prelude.{◌≡◌, ℕ, true}
use Rattle.aom_instructions.specs.Mnemonics.{is_in}
use Rattle.aom_instructions.specs.Operands.{OperandsFit}
use Rattle.aom_instructions.specs.Table.{mnemonic, operands as operands_in, row}
use Rattle.aom_instructions.specs.declared.instr.Instr.{Instr}
use Rattle.aom_instructions.specs.declared.limits.Limits.{Limits}
use Rattle.aom_instructions.specs.declared.version.Version.{Version}

-- the version has the instruction, and it has the operands that its row asks, each in its range
pub record InstrFits (l : Limits) (i : Instr) : Type 0 where
  pub version : is_in l.version (mnemonic i) ≡ true
  pub operands : OperandsFit l (row (mnemonic i)).kinds (operands_in i)

-- what the operands of a method's code are measured by
abbrev pub limits : Version → ℕ → ℕ → ℕ → Limits
limits version classes methods places = record { version = version; classes = classes; methods = methods; places = places }
