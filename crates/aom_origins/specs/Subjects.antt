-- What a need is about, and when two states know the same of it.
use Rattle.std.specs.Prelude.{ℕ, Bool, ◌&&◌, ◌==◌, Option, Some, None}
use Rattle.aom_image.specs.Image.{Image}
use Rattle.aom_instructions.specs.declared.instr.Target.{Target}
use Rattle.aom_instructions.specs.declared.instr.Target.TheVariants as targets
use Rattle.aom_roles.specs.Tables.{at}
use Rattle.aom_abstract_state.specs.AbstractState.{AbstractState, Known}
use Rattle.aom_abstract_state.specs.Tests.{implied, implied_field_state, same_message_state}
use Rattle.aom_abstract_state.specs.declared.kind.FieldState.{FieldState}
use Rattle.aom_abstract_state.specs.declared.kind.FieldState.TheVariants.{Perhaps}
use Rattle.aom_abstract_state.specs.declared.kind.Kind.{Kind}
use Rattle.aom_abstract_state.specs.declared.kind.Kind.TheVariants.{Unset}
use Rattle.aom_abstract_state.specs.declared.why.Reason.{Reason}
use Rattle.aom_needs.specs.Sentences.{first_needed}
use Rattle.aom_needs.specs.declared.wanted.Operand.{Operand}
use Rattle.aom_needs.specs.declared.wanted.Operand.TheVariants as operands
use Rattle.aom_needs.specs.declared.wanted.Wanted.{Wanted}
use Rattle.aom_needs.specs.declared.wanted.Wanted.TheVariants as want
use Rattle.aom_origins.specs.declared.subject.Subject.{Subject}
use Rattle.aom_origins.specs.declared.subject.Subject.TheVariants.{Register, Field, Request, Message}

abbrev pub of_operand : Operand → Option Subject
of_operand (operands.Register r) = Some (Register r)
of_operand (operands.Field f) = Some (Field f)
of_operand (operands.Entry k) = None

-- the object on which the method works
abbrev pub of_target : Target → Option Subject
of_target targets.This = Some Request
of_target _ = None

abbrev pub subject_of : Wanted → Option Subject
subject_of (want.Word r) = Some (Register r)
subject_of (want.Unowning r) = Some (Register r)
subject_of (want.ObjectOrNull r) = Some (Register r)
subject_of (want.Deletable r) = Some (Register r)
subject_of (want.Pushable r) = Some (Register r)
subject_of (want.Owner x t) = of_operand x
subject_of (want.OwnerOrNull r t) = Some (Register r)
subject_of (want.ResultRegister m' r) = Some (Register r)
subject_of want.Message = Some Message
subject_of (want.Begin m' target) = of_target target
subject_of want.End = Some Request
subject_of want.Cancelling = Some Request
subject_of want.Inactive = Some Request
subject_of _ = None

-- neither says more than the other
abbrev pub same_kind : Kind → Kind → Bool
same_kind a b = implied a b && implied b a

abbrev pub same_field_state : FieldState → FieldState → Bool
same_field_state a b = implied_field_state a b && implied_field_state b a

abbrev pub is_same : Subject → Known → Known → Bool
is_same (Register r) a b = same_kind (at Unset a.registers r) (at Unset b.registers r)
is_same (Field f) a b = same_field_state (at Perhaps a.fields f) (at Perhaps b.fields f)
is_same Request a b = a.states == b.states
is_same Message a b = same_message_state a.message_state b.message_state

abbrev pub subject_in : Option Wanted → Option Subject
subject_in None = None
subject_in (Some w) = subject_of w

-- what the first need is about that is not met at a place
abbrev pub needed_subject : Image → (method place : ℕ) → AbstractState → Reason → Option Subject
needed_subject p m place sh why = subject_in (first_needed p m place sh why)
