-- Where a rule is applied, what is asked there of a leave, and what the rules of calls, traps and returns answer.
use Rattle.std.specs.Prelude.{ℕ, List, [], ◌∷◌, Result}
use Rattle.aom_image.specs.Image.{Image}
use Rattle.aom_image.specs.Views.{leaves}
use Rattle.aom_instructions.specs.declared.instr.Target.{Target}
use Rattle.aom_abstract_state.specs.Kinds.{is_here, none_owns}
use Rattle.aom_abstract_state.specs.Needs.{Flow, Need, judged}
use Rattle.aom_abstract_state.specs.AbstractState.{AbstractState}
use Rattle.aom_abstract_state.specs.declared.why.Reason.{Reason}
use Rattle.aom_abstract_state.specs.declared.why.Reason.TheVariants.{IssuedAtLeave, LeaveNotAllowed, MessageAtLeave, OwnedAtLeave}
use Rattle.aom_typing_rules.specs.Calls.{flow_call, flow_trap, rule_call, rule_return, rule_trap}
use Rattle.aom_typing_rules.specs.Beginning.{unissued}

-- a place of a method, and what is known there
pub record RuleContext : Type 0 where
  pub image : Image
  pub method : ℕ
  pub place : ℕ
  pub shape : AbstractState

module _ (p : Image) (m : ℕ) (pc : ℕ) (sh : AbstractState) where
  -- where a method may leave in that state: it is one that may, no register owns, no request waits to be set active, and the message is not taken
  abbrev pub leave_point : AbstractState → List Need
  leave_point left =
      (leaves p m, LeaveNotAllowed)
      ∷ (none_owns left.registers, OwnedAtLeave)
      ∷ (unissued left.states, IssuedAtLeave)
      ∷ (is_here left.message_state, MessageAtLeave)
      ∷ []

abbrev pub call_answer : RuleContext → Target → (method first result : ℕ) → Result (List Flow) Reason
call_answer s target m' first c = judged (rule_call s.image s.method s.place s.shape target m' first c) (flow_call s.image s.method s.place s.shape target m' first c)

abbrev pub trap_answer : RuleContext → Target → (method first result : ℕ) → Result (List Flow) Reason
trap_answer s target m' first c = judged (rule_trap s.image s.method s.place s.shape target m' first c) (flow_trap s.image s.method s.place s.shape target m' first c)

abbrev pub return_answer : RuleContext → (register : ℕ) → Result (List Flow) Reason
return_answer s a = judged (rule_return s.image s.method s.place s.shape a) []
