-- The format of an instruction: its opcode, and operands of the kinds that the opcode's row asks.
use Rattle.std.specs.Prelude.{◌≤◌, ℕ, ◌/◌, ◌%◌, Option, Some, None, Result, Ok, Err, nat_lt, ◌==◌, if◌then◌else◌}
use Rattle.std.specs.Int.{w32, cast_signed}
use Rattle.aom_codec.specs.Codec.{Codec, byte, next_u32, next, seen}
use Rattle.aom_codec.specs.Serialization.{small_byte, large_number}
use Rattle.aom_codec.specs.declared.fault.LoadFault.{LoadFault}
use Rattle.aom_codec.specs.declared.fault.LoadFault.TheVariants.{BadOpcode, BadOperand, BadIndex, NotZero}
use Rattle.aom_instructions.specs.Mnemonics.{is_in, with_opcode}
use Rattle.aom_instructions.specs.Table.{make, mnemonic, operands, operands_of, row}
use Rattle.aom_instructions.specs.declared.instr.Instr.{Instr}
use Rattle.aom_instructions.specs.declared.instr.Target.TheVariants as targets
use Rattle.aom_instructions.specs.declared.kinds.Kinds.{Kinds}
use Rattle.aom_instructions.specs.declared.kinds.LargeKind.{LargeKind}
use Rattle.aom_instructions.specs.declared.kinds.LargeKind.TheVariants as lk
use Rattle.aom_instructions.specs.declared.kinds.SmallKind.{SmallKind}
use Rattle.aom_instructions.specs.declared.kinds.SmallKind.TheVariants as sk
use Rattle.aom_instructions.specs.declared.limits.Limits.{Limits}
use Rattle.aom_instructions.specs.declared.mnemonic.Mnemonic.{Mnemonic}
use Rattle.aom_instructions.specs.declared.operand.Large.{Large}
use Rattle.aom_instructions.specs.declared.operand.Large.TheVariants as large
use Rattle.aom_instructions.specs.declared.operand.Operands.{Operands}
use Rattle.aom_instructions.specs.declared.operand.Small.{Small}
use Rattle.aom_instructions.specs.declared.operand.Small.TheVariants as small
use Rattle.aom_instructions.specs.declared.version.Version.{Version}

-- limits that an image can have
pub record Bounded (l : Limits) : Type 0 where
  pub classes : l.classes ≤ 256
  pub methods : l.methods ≤ 1024
  pub places : l.places ≤ 1024

-- ---- one operand

-- a number below a limit, and what it says
abbrev pub below : {X : Type 0} → ℕ → ℕ → X → LoadFault → Result X LoadFault
below limit n operand fault = if nat_lt n limit then Ok operand else Err fault

-- a target by the halves of its byte
abbrev pub target_from : ℕ → ℕ → Result Small LoadFault
target_from high low =
    if high == 0 then below 1 low (small.CallTarget targets.This) BadOperand
    else if high == 1 then below 16 low (small.CallTarget (targets.Register low)) BadOperand
    else if high == 2 then below 8 low (small.CallTarget (targets.Field low)) BadOperand
    else if high == 3 then below 16 low (small.CallTarget (targets.Entry low)) BadOperand
    else Err BadOperand

-- what a byte says where an operand of that kind stands
abbrev pub small_from : SmallKind → ℕ → Result Small LoadFault
small_from sk.Unused n = below 1 n small.Unused NotZero
small_from sk.Register n = below 16 n (small.Register n) BadOperand
small_from sk.TrapResult n = below 15 n (small.Register n) BadOperand
small_from sk.Word n = below 8 n (small.Word n) BadOperand
small_from sk.Field n = below 8 n (small.Field n) BadOperand
small_from sk.Depth n = below 4 n (small.Depth n) BadOperand
small_from sk.CallTarget n = target_from (n / 16) (n % 16)

-- what four bytes say where an operand of that kind stands
abbrev pub large_from : Limits → LargeKind → ℕ → Result Large LoadFault
large_from l lk.Nothing n = below 1 n large.Nothing NotZero
large_from l lk.Number n = Ok (large.Number (cast_signed w32 n))
large_from l lk.Rounds n = if n == 0 then Err BadOperand else below 65536 n (large.Rounds n) BadOperand
large_from l lk.Place n = below l.places n (large.Place n) BadIndex
large_from l lk.Class n = below l.classes n (large.Class n) BadIndex
large_from l lk.Method n = below l.methods n (large.Method n) BadIndex

-- a small operand, read and spelled
abbrev pub small_operand : SmallKind → Codec Small
small_operand k = seen (small_from k) small_byte byte

-- the large operand, read and spelled
abbrev pub large_operand : Limits → LargeKind → Codec Large
large_operand l k = seen (large_from l k) large_number next_u32

-- ---- the whole

-- the operands of an instruction, in file order
abbrev pub all_operands : Limits → Kinds → Codec Operands
all_operands l k = seen (λ p. Ok (operands_of p.0 p.1.0 p.1.1.0 p.1.1.1)) (λ o. (o.a, (o.b, (o.c, o.d))))
    (next (small_operand k.a) (λ _. next (small_operand k.b) (λ _. next (small_operand k.c) (λ _. large_operand l k.d))))

-- an opcode that has a row in that version
abbrev pub known : Version → Option Mnemonic → Result Mnemonic LoadFault
known version None = Err BadOpcode
known version (Some m) = if is_in version m then Ok m else Err BadOpcode

-- the opcode
abbrev pub opcode : Version → Codec Mnemonic
opcode version = seen (λ n. known version (with_opcode n)) (λ m. (row m).opcode) byte

-- an opcode and what its row asks
abbrev pub instruction : Limits → Codec Instr
instruction l = seen (λ p. Ok (make p.0 p.1)) (λ i. (mnemonic i, operands i)) (next (opcode l.version) (λ m. all_operands l (row m).kinds))
