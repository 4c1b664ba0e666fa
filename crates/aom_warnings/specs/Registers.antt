-- Words that are written to registers which nothing reads.
use Rattle.std.specs.Prelude.{◌≡◌, ◌==◌, ◌&&◌, ◌||◌, ℕ, Bool, true, false, not, All, length, Option, Some, None, slice_get}
use Rattle.aom_image.specs.Image.{Image}
use Rattle.aom_image.specs.Views.{arguments_of, method_at}
use Rattle.aom_image.specs.declared.method.Method.{Method}
use Rattle.aom_instructions.specs.Table.{action_of, mnemonic, operands, transfer_of}
use Rattle.aom_instructions.specs.declared.action.Action.{Action}
use Rattle.aom_instructions.specs.declared.action.Action.TheVariants.{Call}
use Rattle.aom_instructions.specs.declared.instr.Instr.{Instr}
use Rattle.aom_instructions.specs.declared.instr.Instr.TheVariants as instr
use Rattle.aom_instructions.specs.declared.instr.Target.{Target}
use Rattle.aom_instructions.specs.declared.instr.Target.TheVariants as target
use Rattle.aom_instructions.specs.declared.mnemonic.Mnemonic.{Mnemonic}
use Rattle.aom_instructions.specs.declared.mnemonic.Mnemonic.TheVariants as m
use Rattle.aom_instructions.specs.declared.operand.Operands.{Operands}
use Rattle.aom_instructions.specs.declared.operand.Small.{Small}
use Rattle.aom_instructions.specs.declared.operand.Small.TheVariants as small
use Rattle.aom_instructions.specs.declared.transfer.Transfer.{Transfer}
use Rattle.aom_instructions.specs.declared.transfer.Transfer.TheVariants.{Return}
use Rattle.aom_roles.specs.Shapes.{gives_nothing}
use Rattle.aom_roles.specs.Tables.{is_among}

-- the register that an instruction writes a word to, and does no more
unfoldable pub written_word : Instr → Option ℕ
written_word (instr.Const a w) = Some a
written_word (instr.Copy a b) = Some a
written_word (instr.Add a b c) = Some a
written_word (instr.Sub a b c) = Some a
written_word (instr.Mul a b c) = Some a
written_word (instr.And a b c) = Some a
written_word (instr.Or a b c) = Some a
written_word (instr.Xor a b c) = Some a
written_word (instr.Load a w) = Some a
written_word _ = None

-- the first operand is what the instruction writes
abbrev pub writes_first : Mnemonic → Bool
writes_first m.Const = true
writes_first m.Copy = true
writes_first m.Move = true
writes_first m.Add = true
writes_first m.Sub = true
writes_first m.Mul = true
writes_first m.And = true
writes_first m.Or = true
writes_first m.Xor = true
writes_first m.Load = true
writes_first m.Take = true
writes_first m.New = true
writes_first m.NewOrLeave = true
writes_first m.Pop = true
writes_first m.Status = true
writes_first m.Connect = true
writes_first m.Ask = true
writes_first m.TakeMessage = true
writes_first m.Hand = true
writes_first _ = false

abbrev pub is_register : ℕ → Small → Bool
is_register r (small.Register a) = a == r
is_register r _ = false

abbrev pub is_target : ℕ → Target → Bool
is_target r (target.Register a) = a == r
is_target r _ = false

-- a call reads the register of its target, and those of the arguments of the method that it names
abbrev pub call_reads : Image → Target → (called first r : ℕ) → Bool
call_reads p target called first r = is_target r target || is_among first (length (arguments_of p called)) r

-- another instruction reads the registers that it names, but for what it writes
abbrev pub operands_read : Mnemonic → Operands → ℕ → Bool
operands_read mnemonic o r = (not (writes_first mnemonic) && is_register r o.a) || is_register r o.b || is_register r o.c

-- a return reads a register where the method gives something
abbrev pub transfer_reads : Method → ℕ → Instr → Transfer → Bool
transfer_reads d r i (Return a) = not (gives_nothing d.gives) && (a == r)
transfer_reads d r i _ = operands_read (mnemonic i) (operands i) r

abbrev pub action_reads : Image → Method → ℕ → Instr → Action → Bool
action_reads p d r i (Call mode target called first result) = call_reads p target called first r
action_reads p d r i _ = transfer_reads d r i (transfer_of i)

-- an instruction of a method reads the register
unfoldable pub reads : Image → Method → ℕ → Instr → Bool
reads p d r i = action_reads p d r i (action_of i)

-- what is written to the register is never read
abbrev pub IsUnread : Image → Method → ℕ → Type 0
IsUnread p d r = All (λ i. reads p d r i ≡ false) d.code

-- an instruction of a method writes a word to a register that the method never reads
pub record WritesUnread (p : Image) (d : Method) (place r : ℕ) : Type 0 where
  pub writes : (i : Instr) × (slice_get d.code place ≡ Some i) × (written_word i ≡ Some r)
  pub unread : IsUnread p d r

unfoldable pub WritesUnreadIn : Image → Option Method → (place r : ℕ) → Type 0
WritesUnreadIn p None place r = ⊥
WritesUnreadIn p (Some d) place r = WritesUnread p d place r

abbrev pub IsNeverUsed : Image → (m place r : ℕ) → Type 0
IsNeverUsed p m place r = WritesUnreadIn p (method_at p m) place r
