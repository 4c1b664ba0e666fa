-- The ways on from an instruction: a few kinds, whatever the instruction is.
use Rattle.std.specs.Prelude.{ℕ, suc, List, [], ◌++◌}
use Rattle.aom_image.specs.Image.{Image}
use Rattle.aom_instructions.specs.declared.instr.Target.{Target}
use Rattle.aom_instructions.specs.declared.transfer.Condition.TheVariants.{IsActive, IsAdded, IsEmpty, IsNull, OnWords}
use Rattle.aom_instructions.specs.declared.transfer.Transfer.{Transfer}
use Rattle.aom_instructions.specs.declared.transfer.Transfer.TheVariants as transfer
use Rattle.aom_roles.specs.States.{unlisted}
use Rattle.aom_typing_rules.specs.Calls.{called, trapped}
use Rattle.aom_typing_rules.specs.Cleanup.{after_pop, after_push}
use Rattle.aom_abstract_state.specs.Entries.{with_entry, without_entry}
use Rattle.aom_abstract_state.specs.Kinds.{field, register, set_register}
use Rattle.aom_abstract_state.specs.Needs.{Flow, to_next}
use Rattle.aom_typing_rules.specs.Messages.{after_hand, after_take_message}
use Rattle.aom_typing_rules.specs.Objects.{after_move, after_put, after_take, flow_jump_empty, flow_jump_null}
use Rattle.aom_typing_rules.specs.Requests.{after_cancel, enlisted, flow_narrowed, inactive, outstanding}
use Rattle.aom_abstract_state.specs.AbstractState.{AbstractState}
use Rattle.aom_typing_rules.specs.Words.{flow_compare, flow_jump, flow_next}
use Rattle.aom_abstract_state.specs.declared.kind.CleanupEntry.TheVariants.{Operation}
use Rattle.aom_abstract_state.specs.declared.kind.Kind.{Kind}

-- what is known at the next place that was not known before
pub data News : Type 0 where
  As_before : News
  -- a register has that kind
  Holding : (register : ℕ) → Kind → News
  Moved : (to from : ℕ) → News
  Taken : (register field : ℕ) → News
  Filled : (field register : ℕ) → News
  Pushed : (register : ℕ) → News
  Pushed_operation : News
  Popped : (register : ℕ) → News
  -- the last entry is gone
  Dropped : News
  Called : Target → (method first result : ℕ) → News
  Caught : Target → (method first result : ℕ) → News
  -- the object's request is in that state
  Left_in : (states : ℕ) → News
  -- its request is cancelled
  Cancelled : News
  -- a register has the message in service
  Taken_message : (register : ℕ) → News
  -- a register has a token of the request that is made, or null
  Handed : (register : ℕ) → News

-- where a run may go on
pub data Ways : Type 0 where
  Ends : Ways
  -- at the next place
  Goes_on : News → Ways
  Goes_to : (to : ℕ) → Ways
  -- at the next place or at that one
  Branches : (to : ℕ) → Ways
  Goes_back : (to : ℕ) → Ways
  Branches_on_null : (register to : ℕ) → Ways
  Branches_on_empty : (field to : ℕ) → Ways
  -- to that place in some of the states in which the object may be, to the next place in others; a way for which no state is left is none
  Branches_in : (there here to : ℕ) → Ways

-- where a run may go on by a transfer, with that news where it goes on at the next place alone
abbrev pub ways_by : Transfer → News → Ways
ways_by transfer.Onward news = Goes_on news
ways_by (transfer.Jump to) news = Goes_to to
ways_by (transfer.Branch OnWords to) news = Branches to
ways_by (transfer.Branch (IsNull a) to) news = Branches_on_null a to
ways_by (transfer.Branch (IsEmpty f) to) news = Branches_on_empty f to
ways_by (transfer.Branch IsActive to) news = Branches_in outstanding inactive to
ways_by (transfer.Branch IsAdded to) news = Branches_in enlisted unlisted to
ways_by (transfer.Begin depth rounds) news = Goes_on As_before
ways_by (transfer.Repeat depth to) news = Goes_back to
ways_by (transfer.Return a) news = Ends
ways_by (transfer.Leave a) news = Ends

module _ (p : Image) (m : ℕ) (pc : ℕ) (sh : AbstractState) where
  abbrev pub after : News → AbstractState
  after As_before = sh
  after (Holding a kind) = set_register sh a kind
  after (Moved a b) = after_move p m pc sh a b
  after (Taken a f) = after_take p m pc sh a f
  after (Filled f b) = after_put p m pc sh f b
  after (Pushed a) = after_push p m pc sh a
  after Pushed_operation = with_entry Operation sh
  after (Popped a) = after_pop p m pc sh a
  after Dropped = without_entry sh
  after (Called target m' first c) = called p m pc sh target m' first c
  after (Caught target m' first c) = trapped p m pc sh target m' first c
  after (Left_in states) = record sh { states = states }
  after Cancelled = after_cancel sh
  after (Taken_message a) = after_take_message p m sh a
  after (Handed a) = after_hand p m sh a

  abbrev pub flowing : Ways → List Flow
  flowing Ends = []
  flowing (Goes_on news) = to_next pc (after news)
  flowing (Goes_to to) = flow_jump pc sh to
  flowing (Branches to) = flow_compare pc sh to
  flowing (Goes_back to) = flow_next pc sh to
  flowing (Branches_on_null a to) = flow_jump_null p m pc sh (register sh a) a to
  flowing (Branches_on_empty f to) = flow_jump_empty p m pc sh (field sh f) f to
  flowing (Branches_in there here to) = flow_narrowed sh (suc pc) here ++ flow_narrowed sh to there
