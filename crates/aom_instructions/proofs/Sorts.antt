-- The instruction of which an action or a transfer tells, where it is of one alone.
use Rattle.std.proofs.Common.{◌≡◌, ◌<◌, ℕ, arith}
use Rattle.aom_instructions.specs.Fits.{InstrFits}
use Rattle.aom_instructions.specs.Table.{action_of, transfer_of}
use Rattle.aom_instructions.specs.declared.action.Action.TheVariants as action
use Rattle.aom_instructions.specs.declared.action.CallMode.TheVariants.{Plain, Trapped}
use Rattle.aom_instructions.specs.declared.instr.Instr.{Instr}
use Rattle.aom_instructions.specs.declared.instr.Instr.TheVariants as instr
use Rattle.aom_instructions.specs.declared.instr.Target.{Target}
use Rattle.aom_instructions.specs.declared.limits.Limits.{Limits}
use Rattle.aom_instructions.specs.declared.transfer.Transfer.TheVariants as transfer

pub loop_is : (i : Instr) (d n : ℕ) → transfer_of i ≡ transfer.Begin d n → i ≡ instr.Loop d n
loop_is i d n e = grind arith

pub next_is : (i : Instr) (d t : ℕ) → transfer_of i ≡ transfer.Repeat d t → i ≡ instr.Next d t
next_is i d t e = grind arith

pub return_is : (i : Instr) (a : ℕ) → transfer_of i ≡ transfer.Return a → i ≡ instr.Return a
return_is i a e = grind arith

pub call_is : (i : Instr) (t : Target) (m a c : ℕ) → action_of i ≡ action.Call Plain t m a c → i ≡ instr.Call t m a c
call_is i t m a c e = grind arith

pub trap_is : (i : Instr) (t : Target) (m a c : ℕ) → action_of i ≡ action.Call Trapped t m a c → i ≡ instr.Trap t m a c
trap_is i t m a c e = grind arith

pub operation_is : (i : Instr) (a m : ℕ) → action_of i ≡ action.PushOperation a m → i ≡ instr.PushOperation a m
operation_is i a m e = grind arith

pub push_is : (i : Instr) (a : ℕ) → action_of i ≡ action.Push a → i ≡ instr.Push a
push_is i a e = grind arith

pub delete_is : (i : Instr) (a : ℕ) → action_of i ≡ action.Destroy a → i ≡ instr.Delete a
delete_is i a e = grind arith

pub cancel_is : (i : Instr) → action_of i ≡ action.Cancel → i ≡ instr.Cancel
cancel_is i e = grind arith

-- a loop has at least one round
pub some_rounds : (l : Limits) (i : Instr) (d n : ℕ) → InstrFits l i → transfer_of i ≡ transfer.Begin d n → 0 < n
some_rounds l i d n fits e = grind arith
