-- The verifier's rules: for each instruction what the abstract state must say, and which ways go on from it.
use Rattle.std.specs.Prelude.{ℕ, List, [], Result}
use Rattle.aom_image.specs.Image.{Image}
use Rattle.aom_roles.specs.States.{idle, issued, active, cancel_done}
use Rattle.aom_instructions.specs.Table.{transfer_of}
use Rattle.aom_instructions.specs.declared.instr.Instr.{Instr}
use Rattle.aom_instructions.specs.declared.instr.Instr.TheVariants.{Const, Copy, Move, Add, Sub, Mul, And, Or, Xor, Jump, JumpEqual, JumpLess, JumpNull, JumpEmpty, JumpActive, JumpAdded, Loop, Next, Print, Load, Store, Take, Put, New, NewOrLeave, Delete, Push, PushOperation, Pop, PopOperation, PopDelete, Call, Trap, Return, Leave, LeaveIf, Enlist, Issue, SetActive, Cancel, Abort, Status, Connect, Ask, Close, TakeMessage, Reply, Stop, Hand}
use Rattle.aom_image.specs.declared.method.Thing.TheVariants.{Object}
use Rattle.aom_abstract_state.specs.AbstractState.{AbstractState}
use Rattle.aom_abstract_state.specs.Needs.{Need, Flow, judged}
use Rattle.aom_typing_rules.specs.RuleContext.{RuleContext}
use Rattle.aom_typing_rules.specs.Words.{rule_const, rule_copy, rule_combine, rule_compare, rule_print, rule_load, rule_store}
use Rattle.aom_typing_rules.specs.Objects.{new_age, rule_move, rule_jump_null, rule_jump_empty, rule_take, rule_put, rule_new, rule_delete}
use Rattle.aom_typing_rules.specs.Calls.{rule_call, rule_trap, rule_return}
use Rattle.aom_typing_rules.specs.Cleanup.{rule_new_or_leave, rule_push, rule_push_operation, rule_pop, rule_pop_operation, rule_pop_delete, rule_leave}
use Rattle.aom_typing_rules.specs.Requests.{rule_abort, rule_cancel, rule_enlist, rule_issue, rule_jump_active, rule_jump_added, rule_set_active, rule_status}
use Rattle.aom_typing_rules.specs.Natives.{rule_ask, rule_close, rule_connect}
use Rattle.aom_typing_rules.specs.Messages.{rule_hand, rule_reply, rule_take_message}
use Rattle.aom_typing_rules.specs.Finding.{Finds}
use Rattle.aom_typing_rules.specs.Ways.{Ways, News, As_before, Holding, Moved, Taken, Taken_message, Filled, Pushed, Pushed_operation, Popped, Dropped, Called, Caught, Left_in, Cancelled, Handed, flowing, ways_by}
use Rattle.aom_abstract_state.specs.declared.flow.Flow.{Flow as Answer}
use Rattle.aom_abstract_state.specs.declared.kind.Kind.TheVariants.{Word, Null, Own, Maybe}
use Rattle.aom_abstract_state.specs.declared.why.Reason.{Reason}

-- what is known after an instruction, where it goes on at the next place, that was not known before
abbrev pub news_of : Image → Instr → News
news_of p (Const a w) = Holding a Word
news_of p (Copy a b) = Holding a Word
news_of p (Add a b c) = Holding a Word
news_of p (Sub a b c) = Holding a Word
news_of p (Mul a b c) = Holding a Word
news_of p (And a b c) = Holding a Word
news_of p (Or a b c) = Holding a Word
news_of p (Xor a b c) = Holding a Word
news_of p (Load a w) = Holding a Word
news_of p (Move a b) = Moved a b
news_of p (Take a f) = Taken a f
news_of p (Put f b) = Filled f b
news_of p (New a c) = Holding a (Maybe (Object c) (new_age p c))
news_of p (Delete a) = Holding a Null
news_of p (Call target m' first c) = Called target m' first c
news_of p (Trap target m' first c) = Caught target m' first c
news_of p (NewOrLeave a c) = Holding a (Own (Object c) (new_age p c))
news_of p (Push a) = Pushed a
news_of p (PushOperation a m') = Pushed_operation
news_of p (Pop a) = Popped a
news_of p PopOperation = Dropped
news_of p PopDelete = Dropped
news_of p (Enlist priority) = Left_in idle
news_of p (Issue a b) = Left_in issued
news_of p SetActive = Left_in active
news_of p Cancel = Cancelled
news_of p Abort = Left_in cancel_done
news_of p (Status a) = Holding a Word
news_of p (Connect a) = Holding a Word
news_of p (Ask a b c) = Holding a Word
news_of p (TakeMessage a) = Taken_message a
news_of p (Reply a b) = Holding a Null
news_of p (Hand a) = Handed a
news_of p _ = As_before

-- where a run may go on from an instruction
abbrev pub ways_of : Image → Instr → Ways
ways_of p i = ways_by (transfer_of i) (news_of p i)

module _ (p : Image) (m : ℕ) (pc : ℕ) (sh : AbstractState) where
  abbrev pub rule_needs : Instr → List Need
  rule_needs (Const a w) = rule_const pc sh a
  rule_needs (Copy a b) = rule_copy pc sh a b
  rule_needs (Add a b c) = rule_combine pc sh a b c
  rule_needs (Sub a b c) = rule_combine pc sh a b c
  rule_needs (Mul a b c) = rule_combine pc sh a b c
  rule_needs (And a b c) = rule_combine pc sh a b c
  rule_needs (Or a b c) = rule_combine pc sh a b c
  rule_needs (Xor a b c) = rule_combine pc sh a b c
  rule_needs (Jump to) = []
  rule_needs (JumpEqual a b to) = rule_compare pc sh a b
  rule_needs (JumpLess a b to) = rule_compare pc sh a b
  rule_needs (Loop depth rounds) = []
  rule_needs (Next depth to) = []
  rule_needs (Print a) = rule_print pc sh a
  rule_needs (Load a w) = rule_load p m sh a w
  rule_needs (Store w b) = rule_store p m sh w b
  rule_needs (Move a b) = rule_move p m pc sh a b
  rule_needs (JumpNull a to) = rule_jump_null p m pc sh a
  rule_needs (JumpEmpty f to) = rule_jump_empty p m pc sh f
  rule_needs (Take a f) = rule_take p m pc sh a f
  rule_needs (Put f b) = rule_put p m pc sh f b
  rule_needs (New a c) = rule_new p m pc sh a
  rule_needs (Delete a) = rule_delete p m pc sh a
  rule_needs (Call target m' first c) = rule_call p m pc sh target m' first c
  rule_needs (Trap target m' first c) = rule_trap p m pc sh target m' first c
  rule_needs (NewOrLeave a c) = rule_new_or_leave p m pc sh a
  rule_needs (Push a) = rule_push p m pc sh a
  rule_needs (PushOperation a m') = rule_push_operation p m pc sh a
  rule_needs (Pop a) = rule_pop p m pc sh a
  rule_needs PopOperation = rule_pop_operation p m pc sh
  rule_needs PopDelete = rule_pop_delete p m pc sh
  rule_needs (Leave a) = rule_leave p m pc sh a
  rule_needs (LeaveIf a) = rule_leave p m pc sh a
  rule_needs (Return a) = rule_return p m pc sh a
  rule_needs (JumpActive to) = rule_jump_active p m sh
  rule_needs (JumpAdded to) = rule_jump_added p m sh
  rule_needs (Enlist priority) = rule_enlist p m sh
  rule_needs (Issue a b) = rule_issue p m sh a b
  rule_needs SetActive = rule_set_active p m sh
  rule_needs Cancel = rule_cancel p m sh
  rule_needs Abort = rule_abort p m sh
  rule_needs (Status a) = rule_status p m sh a
  rule_needs (Connect a) = rule_connect p m sh a
  rule_needs (Ask a b c) = rule_ask p m sh a b c
  rule_needs Close = rule_close p m sh
  rule_needs (TakeMessage a) = rule_take_message p m sh a
  rule_needs (Reply a b) = rule_reply p m sh a b
  rule_needs Stop = []
  rule_needs (Hand a) = rule_hand p m sh a

  abbrev pub flows : Instr → List Flow
  flows i = flowing p m pc sh (ways_of p i)

  abbrev pub rule : Instr → Result (List Flow) Reason
  rule i = judged (rule_needs i) (flows i)

-- it is what the rule of that instruction answers at that site
abbrev pub Reports : RuleContext → Instr → Result Answer Reason → Type 0
Reports s i answer = Finds s (rule_needs s.image s.method s.place s.shape i) (ways_of s.image i) answer
