-- What an instruction sets going, now or as it leaves the cleanup stack: what it is charged for, and what it may call.
use Rattle.std.specs.Prelude.{ℕ}
use Rattle.aom_instructions.specs.Table.{action_of}
use Rattle.aom_instructions.specs.declared.action.Action.{Action}
use Rattle.aom_instructions.specs.declared.action.Action.TheVariants as actions
use Rattle.aom_instructions.specs.declared.instr.Instr.{Instr}

pub data Charge : Type 0 where
  No_charge : Charge
  -- a method that is called, or what overrides it
  A_call : (method : ℕ) → Charge
  -- a method that runs as it leaves the cleanup stack
  An_operation : (method : ℕ) → Charge
  -- what a register has goes, now or as it leaves the cleanup stack
  A_destruction : (register : ℕ) → Charge
  -- the request of what the method works on is cancelled
  A_cancel : Charge

abbrev pub charged : Action → Charge
charged (actions.Call manner target k first c) = A_call k
charged (actions.PushOperation a k) = An_operation k
charged (actions.Push a) = A_destruction a
charged (actions.Destroy a) = A_destruction a
charged actions.Cancel = A_cancel
charged _ = No_charge

abbrev pub charge_of : Instr → Charge
charge_of i = charged (action_of i)
