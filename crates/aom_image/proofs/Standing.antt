-- The instruction that stands where a transfer or an action does.
use Rattle.std.proofs.Common.{◌≡◌, Option, Some, arith}
use Rattle.aom_image.specs.Views.{action_in, transfer_in}
use Rattle.aom_instructions.specs.Table.{action_of, transfer_of}
use Rattle.aom_instructions.specs.declared.action.Action.{Action}
use Rattle.aom_instructions.specs.declared.instr.Instr.{Instr}
use Rattle.aom_instructions.specs.declared.transfer.Transfer.{Transfer}

pub transfer_there : (o : Option Instr) (t : Transfer) → transfer_in o ≡ Some t → (i : Instr) × (o ≡ Some i) × (transfer_of i ≡ t)
transfer_there o t e = grind arith

pub action_there : (o : Option Instr) (a : Action) → action_in o ≡ Some a → (i : Instr) × (o ≡ Some i) × (action_of i ≡ a)
action_there o a e = grind arith
