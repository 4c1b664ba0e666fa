-- What holds of the table of instructions: statements about the definitions alone.
use Rattle.std.specs.Prelude.{◌≡◌, ℕ, Option, Some, None}
use Rattle.aom_instructions.specs.Mnemonics.{mnemonic_of, mnemonic_text, with_opcode}
use Rattle.aom_instructions.specs.Operands.{OperandsFit, class_said, method_said, place_said}
use Rattle.aom_instructions.specs.Table.{action_of, make, mnemonic, operands, row, transfer_of}
use Rattle.aom_instructions.specs.declared.action.Action.{Action}
use Rattle.aom_instructions.specs.declared.action.Action.TheVariants as action
use Rattle.aom_instructions.specs.declared.instr.Instr.{Instr}
use Rattle.aom_instructions.specs.declared.limits.Limits.{Limits}
use Rattle.aom_instructions.specs.declared.mnemonic.Mnemonic.{Mnemonic}
use Rattle.aom_instructions.specs.declared.operand.Operands.{Operands}
use Rattle.aom_instructions.specs.declared.transfer.Transfer.{Transfer}
use Rattle.aom_instructions.specs.declared.transfer.Transfer.TheVariants as transfer

-- the parts of an instruction make that instruction
abbrev pub PartsMakeAgain : Type 0
PartsMakeAgain = (i : Instr) → make (mnemonic i) (operands i) ≡ i

-- what is made of a mnemonic and operands that its row asks has these parts
abbrev pub MakingPartsAgain : Type 0
MakingPartsAgain = (l : Limits) (m : Mnemonic) (o : Operands) → OperandsFit l (row m).kinds o → (mnemonic (make m o) ≡ m) × (operands (make m o) ≡ o)

-- each row is found by its opcode and by its text
abbrev pub RowsAreOne : Type 0
RowsAreOne = (m : Mnemonic) → (with_opcode (row m).opcode ≡ Some m) × (mnemonic_of (mnemonic_text m) ≡ Some m)

-- the place that a transfer names
abbrev pub named_place : Transfer → Option ℕ
named_place (transfer.Jump t) = Some t
named_place (transfer.Branch c t) = Some t
named_place (transfer.Repeat d t) = Some t
named_place _ = None

-- the method that is called or pushed
abbrev pub named_method : Action → Option ℕ
named_method (action.PushOperation a m) = Some m
named_method (action.Call manner t m a c) = Some m
named_method _ = None

-- the class of which an object is made
abbrev pub named_class : Action → Option ℕ
named_class (action.Make c) = Some c
named_class _ = None

-- an instruction's transfer and its action name just the place, the method and the class among its operands
abbrev pub SortsNameOperands : Type 0
SortsNameOperands =
    (i : Instr) → (named_place (transfer_of i) ≡ place_said (operands i).d) × (named_method (action_of i) ≡ method_said (operands i).d) ×
    (named_class (action_of i) ≡ class_said (operands i).d)
