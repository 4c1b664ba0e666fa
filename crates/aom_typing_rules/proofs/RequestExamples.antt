-- One refused instruction for each why of request states and of the message in service, and some that pass.
use Rattle.std.proofs.Common.{◌≡◌, ℕ, pos, List, [], ◌∷◌, replicate, Option, Some, None, Ok, Err, refl}
use Rattle.aom_image.specs.Image.{Image}
use Rattle.aom_image.specs.Small.{a_class, a_header, a_method}
use Rattle.aom_image.specs.Views.{method_at, class_at, arguments_in, gives_in, leaves_in, quiet_in, role_in, class_in, fields_in}
use Rattle.aom_image.specs.declared.class.ClassDecl.{ClassDecl}
use Rattle.aom_image.specs.declared.class.ClassKind.TheVariants.{Active, Plain, Server, Session}
use Rattle.aom_image.specs.declared.class.Provider.TheVariants as providers
use Rattle.aom_image.specs.declared.method.Gives.TheVariants.{Nothing}
use Rattle.aom_image.specs.declared.method.Method.{Method}
use Rattle.aom_image.specs.declared.method.Role.{Role}
use Rattle.aom_image.specs.declared.method.Role.TheVariants.{Cancel, Construct, Destruct, Do, Service}
use Rattle.aom_image.specs.declared.method.Thing.TheVariants.{Object}
use Rattle.aom_link_conditions.specs.Roles.{keeper_in, own_role, fills_role, role_number, role_of}
use Rattle.aom_roles.specs.Families.{descends_in}
use Rattle.aom_instructions.specs.declared.instr.Instr.TheVariants.{Abort, Call, Cancel as Cancels, Enlist, Issue, JumpActive, JumpAdded, Leave, Return}
use Rattle.aom_instructions.specs.declared.instr.Instr.TheVariants.{SetActive, Status, Trap}
use Rattle.aom_instructions.specs.declared.instr.Target.TheVariants.{This, Register}
use Rattle.aom_roles.specs.Classes.{kind_in}
use Rattle.aom_roles.specs.Shapes.{kind_of}
use Rattle.aom_roles.specs.States.{states_of}
use Rattle.aom_typing_rules.specs.Rules.{rule}
use Rattle.aom_abstract_state.specs.Arguments.{after_in, before_in}
use Rattle.aom_abstract_state.specs.AbstractState.{AbstractState}
use Rattle.aom_abstract_state.specs.declared.kind.InitState.TheVariants.{Fresh, Ready}
use Rattle.aom_abstract_state.specs.declared.kind.MessageState.{MessageState}
use Rattle.aom_abstract_state.specs.declared.kind.MessageState.TheVariants.{Here, Gone}
use Rattle.aom_abstract_state.specs.declared.kind.FieldState.TheVariants.{Empty, Perhaps}
use Rattle.aom_abstract_state.specs.declared.kind.Kind.{Kind}
use Rattle.aom_abstract_state.specs.declared.kind.Kind.TheVariants.{Word, Unset, Own}
use Rattle.aom_abstract_state.specs.declared.why.Reason.TheVariants.{IssuedAtLeave, IssuedAtReturn, StillActive, NotCancelled, MessageAtLeave, MessageAtReturn}
use Rattle.aom_abstract_state.specs.declared.why.Reason.TheVariants.{EntryState, NotAdded, NotIdle, NotIssued, RegisterKind}

-- class 0 is active, class 1 that of sessions, class 2 plain, class 3 that of a server
classes : List ClassDecl
classes = a_class (Active providers.Own) 10 0 [] ∷ a_class Session 0 0 [] ∷ a_class Plain 0 0 [] ∷ a_class (Server 4 1) 10 0 [] ∷ []

method : (role : Role) (class : Option ℕ) (flags before after : ℕ) → Method
method role class flags before after = a_method class role flags before after [] Nothing []

-- method 0 runs, and may call method 1
running : Method → Method → Image
running here there = record { header = a_header 4 1 0 None 100; classes = classes; methods = here ∷ there ∷ [] }

-- a method of the active class that may begin and end in those states, and leave
active_do : (before after : ℕ) → Method
active_do before after = method Do (Some 0) 1 before after

alone : Method → Image
alone here = running here (active_do 11 11)

-- a state of one register
state : Kind → ℕ → MessageState → AbstractState
state kind states message_state = record { registers = kind ∷ []; fields = []; entries = []; states = states; message_state = message_state }

-- ---- returns

return_with_an_issued_request : rule (alone (active_do 11 11)) 0 0 (state Unset 6 Here) (Return 0) ≡ Err IssuedAtReturn
unfolding alone running active_do method state method_at gives_in descends_in
return_with_an_issued_request = refl

cancel_that_is_open : rule (alone (method Cancel (Some 0) 2 16 32)) 0 0 (state Unset 16 Here) (Return 0) ≡ Err NotCancelled
unfolding alone running active_do method state method_at gives_in role_in descends_in
cancel_that_is_open = refl

destructor_that_leaves_a_request : rule (alone (method Destruct (Some 0) 2 11 3)) 0 0 (state Unset 11 Here) (Return 0) ≡ Err StillActive
unfolding alone running active_do method state method_at gives_in role_in descends_in
destructor_that_leaves_a_request = refl

return_in_another_state : rule (alone (active_do 11 2)) 0 0 (state Unset 3 Here) (Return 0) ≡ Err EntryState
unfolding alone running active_do method state classes method_at class_at gives_in role_in class_in fields_in after_in descends_in
return_in_another_state = refl

message_that_is_not_taken : rule (alone (method Service (Some 1) 1 0 0)) 0 0 (state Unset 0 Here) (Return 0) ≡ Err MessageAtReturn
unfolding alone running active_do method state classes method_at class_at gives_in role_in class_in fields_in after_in descends_in
message_that_is_not_taken = refl

message_that_is_taken : rule (alone (method Service (Some 1) 1 0 0)) 0 0 (state Unset 0 Gone) (Return 0) ≡ Ok []
unfolding alone running active_do method state classes method_at class_at gives_in role_in class_in fields_in after_in descends_in
message_that_is_taken = refl

cancel_that_is_done : rule (alone (method Cancel (Some 0) 2 16 32)) 0 0 (state Unset 32 Here) (Return 0) ≡ Ok []
unfolding alone running active_do method state classes method_at class_at gives_in role_in class_in fields_in after_in descends_in
cancel_that_is_done = refl

-- ---- leaves

leave_with_an_issued_request : rule (alone (active_do 11 11)) 0 0 (state Word 4 Here) (Leave 0) ≡ Err IssuedAtLeave
unfolding alone running active_do method state method_at leaves_in descends_in
leave_with_an_issued_request = refl

leave_with_the_message : rule (alone (method Service (Some 1) 1 0 0)) 0 0 (state Word 0 Gone) (Leave 0) ≡ Err MessageAtLeave
unfolding alone running active_do method state method_at leaves_in descends_in
leave_with_the_message = refl

-- a call of a method that may leave is such a place too
call_with_an_issued_request : rule (running (active_do 11 11) (method Do None 1 0 0)) 0 0 (state Unset 6 Here) (Call This 1 0 0) ≡ Err IssuedAtLeave
unfolding running active_do method state method_at arguments_in gives_in role_in class_in quiet_in leaves_in descends_in
call_with_an_issued_request = refl

call_with_the_message_taken : rule (running (method Service (Some 1) 1 0 0) (method Do None 1 0 0)) 0 0 (state Unset 0 Gone) (Call This 1 0 0) ≡ Err MessageAtLeave
unfolding running active_do method state method_at arguments_in gives_in role_in class_in quiet_in leaves_in descends_in
call_with_the_message_taken = refl

-- ---- calls and traps

call_on_self_in_another_state : rule (running (active_do 11 11) (active_do 2 2)) 0 0 (state Unset 3 Here) (Call This 1 0 0) ≡ Err EntryState
unfolding running active_do method state method_at arguments_in role_in class_in before_in descends_in
call_on_self_in_another_state = refl

call_on_an_object_in_any_state : rule (running (active_do 11 11) (active_do 2 2)) 0 0 (state (Own (Object 0) Ready) 3 Here) (Call (Register 0) 1 1 1)
    ≡ Err EntryState
unfolding running active_do method state classes method_at class_at arguments_in role_in class_in before_in kind_of kind_in states_of descends_in
call_on_an_object_in_any_state = refl

trap_on_self_in_another_state : rule (running (active_do 11 11) (active_do 2 2)) 0 0 (state Unset 3 Here) (Trap This 1 0 0) ≡ Err EntryState
unfolding running active_do method state method_at arguments_in quiet_in role_in class_in before_in descends_in
trap_on_self_in_another_state = refl

-- the object is in a state in which the method ends, and after a trap in any in which nothing works on it
called_on_self : rule (running (active_do 11 11) (active_do 3 2)) 0 0 (state Unset 3 Here) (Call This 1 0 0)
    ≡ Ok ((1, record (state Unset 2 Here) { fields = replicate 8 Perhaps }) ∷ [])
unfolding running active_do method state method_at arguments_in gives_in role_in class_in quiet_in leaves_in before_in after_in descends_in
called_on_self = refl

trapped_on_self : rule (running (active_do 11 11) (active_do 3 2)) 0 0
    (state Unset 3 Here) (Trap This 1 0 0) ≡ Ok ((1, record (state Unset 11 Here) { registers = Unset ∷ Word ∷ []; fields = replicate 8 Perhaps }) ∷ [])
unfolding running active_do method state classes method_at class_at arguments_in gives_in role_in class_in quiet_in before_in kind_of kind_in states_of
    descends_in
trapped_on_self = refl

-- another object is constructed in its first state
constructed_there : rule (running (active_do 11 11) (method Construct (Some 0) 0 1 3)) 0 0
    (state (Own (Object 0) Fresh) 6 Here) (Call (Register 0) 1 1 1) ≡ Ok ((1, state (Own (Object 0) Ready) 6 Here) ∷ [])
unfolding running active_do method state method_at arguments_in gives_in role_in class_in quiet_in leaves_in descends_in
    role_of keeper_in own_role fills_role role_number
constructed_there = refl

-- ---- requests

issued_while_active : rule (alone (active_do 11 11)) 0 0 (state Word 8 Here) (Issue 0 0) ≡ Err NotIdle
unfolding alone running active_do method state classes method_at class_at class_in kind_of kind_in descends_in
issued_while_active = refl

issued_by_an_unlisted : rule (alone (active_do 11 11)) 0 0 (state Word 3 Here) (Issue 0 0) ≡ Err NotAdded
unfolding alone running active_do method state classes method_at class_at class_in kind_of kind_in descends_in
issued_by_an_unlisted = refl

issued_for_no_word : rule (alone (active_do 11 11)) 0 0 (state Unset 2 Here) (Issue 0 0) ≡ Err RegisterKind
unfolding alone running active_do method state classes method_at class_at class_in kind_of kind_in descends_in
issued_for_no_word = refl

issued_by_an_idle : rule (alone (active_do 11 11)) 0 0 (state Word 2 Here) (Issue 0 0) ≡ Ok ((1, state Word 4 Here) ∷ [])
unfolding alone running active_do method state classes method_at class_at class_in kind_of kind_in descends_in
issued_by_an_idle = refl

set_active_of_an_idle : rule (alone (active_do 11 11)) 0 0 (state Unset 2 Here) SetActive ≡ Err NotIssued
unfolding alone running active_do method state classes method_at class_at class_in kind_of kind_in descends_in
set_active_of_an_idle = refl

set_active_in_a_static_method : rule (alone (method Do None 1 0 0)) 0 0 (state Unset 0 Here) SetActive ≡ Err RegisterKind
unfolding alone running active_do method state classes method_at class_at class_in kind_of kind_in descends_in
set_active_in_a_static_method = refl

set_active_of_an_issued : rule (alone (active_do 11 11)) 0 0 (state Unset 4 Here) SetActive ≡ Ok ((1, state Unset 8 Here) ∷ [])
unfolding alone running active_do method state classes method_at class_at class_in kind_of kind_in descends_in
set_active_of_an_issued = refl

enlisted_twice : rule (alone (active_do 11 11)) 0 0 (state Unset 3 Here) (Enlist (pos 7)) ≡ Err NotAdded
unfolding alone running active_do method state classes method_at class_at class_in kind_of kind_in descends_in
enlisted_twice = refl

enlisted_of_a_plain_class : rule (alone (method Do (Some 2) 1 0 0)) 0 0 (state Unset 0 Here) (Enlist (pos 7)) ≡ Err RegisterKind
unfolding alone running active_do method state classes method_at class_at class_in kind_of kind_in descends_in
enlisted_of_a_plain_class = refl

enlisted_once : rule (alone (active_do 11 11)) 0 0 (state Unset 1 Here) (Enlist (pos 7)) ≡ Ok ((1, state Unset 2 Here) ∷ [])
unfolding alone running active_do method state classes method_at class_at class_in kind_of kind_in descends_in
enlisted_once = refl

enlisted_server : rule (alone (method Do (Some 3) 1 3 3)) 0 0 (state Unset 1 Here) (Enlist (pos 7)) ≡ Ok ((1, state Unset 2 Here) ∷ [])
unfolding alone running active_do method state classes method_at class_at class_in kind_of kind_in descends_in
enlisted_server = refl

status_of_a_plain_object : rule (alone (method Do (Some 2) 1 0 0)) 0 0 (state Unset 0 Here) (Status 0) ≡ Err RegisterKind
unfolding alone running active_do method state classes method_at class_at class_in kind_of kind_in descends_in
status_of_a_plain_object = refl

status_of_a_server : rule (alone (method Do (Some 3) 1 3 3)) 0 0 (state Unset 2 Here) (Status 0) ≡ Err RegisterKind
unfolding alone running active_do method state classes method_at class_at class_in kind_of kind_in descends_in
status_of_a_server = refl

status_over_an_owner : rule (alone (active_do 11 11)) 0 0 (state (Own (Object 2) Ready) 2 Here) (Status 0) ≡ Err RegisterKind
unfolding alone running active_do method state classes method_at class_at class_in kind_of kind_in descends_in
status_over_an_owner = refl

status_of_a_request : rule (alone (active_do 11 11)) 0 0 (state Unset 2 Here) (Status 0) ≡ Ok ((1, state Word 2 Here) ∷ [])
unfolding alone running active_do method state classes method_at class_at class_in kind_of kind_in descends_in
status_of_a_request = refl

-- ---- cancels

aborted_outside_a_cancel : rule (alone (active_do 11 11)) 0 0 (state Unset 8 Here) Abort ≡ Err EntryState
unfolding alone running active_do method state classes method_at class_at class_in kind_of kind_in descends_in
aborted_outside_a_cancel = refl

aborted_in_a_cancel : rule (alone (method Cancel (Some 0) 2 16 32)) 0 0 (state Unset 16 Here) Abort ≡ Ok ((1, state Unset 32 Here) ∷ [])
unfolding alone running active_do method state classes method_at class_at class_in kind_of kind_in descends_in
aborted_in_a_cancel = refl

cancelled_while_issued : rule (alone (active_do 11 11)) 0 0 (state Unset 6 Here) Cancels ≡ Err NotIdle
unfolding alone running active_do method state classes method_at class_at class_in kind_of kind_in descends_in
cancelled_while_issued = refl

cancelled_in_a_cancel : rule (alone (method Cancel (Some 0) 2 16 32)) 0 0 (state Unset 16 Here) Cancels ≡ Err NotIdle
unfolding alone running active_do method state classes method_at class_at class_in kind_of kind_in descends_in
cancelled_in_a_cancel = refl

cancelled_by_a_server : rule (alone (method Do (Some 3) 1 3 3)) 0 0 (state Unset 2 Here) Cancels ≡ Err RegisterKind
unfolding alone running active_do method state classes method_at class_at class_in kind_of kind_in descends_in
cancelled_by_a_server = refl

-- what was active is idle, and nothing is known of the fields
cancelled_in_any_state : rule (alone (active_do 11 11)) 0 0 (record (state Unset 11 Here) { fields = Empty ∷ [] }) Cancels
    ≡ Ok ((1, record (state Unset 3 Here) { fields = replicate 8 Perhaps }) ∷ [])
unfolding alone running active_do method state classes method_at class_at class_in kind_of kind_in descends_in
cancelled_in_any_state = refl

cancelled_of_an_active : rule (alone (active_do 11 11)) 0 0 (state Unset 8 Here) Cancels
    ≡ Ok ((1, record (state Unset 2 Here) { fields = replicate 8 Perhaps }) ∷ [])
unfolding alone running active_do method state classes method_at class_at class_in kind_of kind_in descends_in
cancelled_of_an_active = refl

cancelled_of_an_unlisted : rule (alone (active_do 11 11)) 0 0 (state Unset 1 Here) Cancels
    ≡ Ok ((1, record (state Unset 1 Here) { fields = replicate 8 Perhaps }) ∷ [])
unfolding alone running active_do method state classes method_at class_at class_in kind_of kind_in descends_in
cancelled_of_an_unlisted = refl

-- ---- jumps by the request

jump_of_either : rule (alone (active_do 11 11)) 0 0 (state Unset 10 Here) (JumpActive 5) ≡ Ok ((1, state Unset 2 Here) ∷ (5, state Unset 8 Here) ∷ [])
unfolding alone running active_do method state classes method_at class_at class_in kind_of kind_in descends_in
jump_of_either = refl

-- a flow for which no state is left is none
jump_of_an_active : rule (alone (active_do 11 11)) 0 0 (state Unset 8 Here) (JumpActive 5) ≡ Ok ((5, state Unset 8 Here) ∷ [])
unfolding alone running active_do method state classes method_at class_at class_in kind_of kind_in descends_in
jump_of_an_active = refl

jump_of_an_idle : rule (alone (active_do 11 11)) 0 0 (state Unset 2 Here) (JumpActive 5) ≡ Ok ((1, state Unset 2 Here) ∷ [])
unfolding alone running active_do method state classes method_at class_at class_in kind_of kind_in descends_in
jump_of_an_idle = refl

jump_in_a_cancel : rule (alone (method Cancel (Some 0) 2 16 32)) 0 0 (state Unset 16 Here) (JumpActive 5) ≡ Ok ((5, state Unset 16 Here) ∷ [])
unfolding alone running active_do method state classes method_at class_at class_in kind_of kind_in descends_in
jump_in_a_cancel = refl

jump_by_a_server : rule (alone (method Do (Some 3) 1 3 3)) 0 0 (state Unset 2 Here) (JumpActive 5) ≡ Err RegisterKind
unfolding alone running active_do method state classes method_at class_at class_in kind_of kind_in descends_in
jump_by_a_server = refl

jump_of_a_listed : rule (alone (method Do (Some 3) 1 3 3)) 0 0 (state Unset 3 Here) (JumpAdded 5) ≡ Ok ((1, state Unset 1 Here) ∷ (5, state Unset 2 Here) ∷ [])
unfolding alone running active_do method state classes method_at class_at class_in kind_of kind_in descends_in
jump_of_a_listed = refl

jump_of_an_unlisted : rule (alone (active_do 11 11)) 0 0 (state Unset 1 Here) (JumpAdded 5) ≡ Ok ((1, state Unset 1 Here) ∷ [])
unfolding alone running active_do method state classes method_at class_at class_in kind_of kind_in descends_in
jump_of_an_unlisted = refl

jump_of_a_plain_object : rule (alone (method Do (Some 2) 1 0 0)) 0 0 (state Unset 0 Here) (JumpAdded 5) ≡ Err RegisterKind
unfolding alone running active_do method state classes method_at class_at class_in kind_of kind_in descends_in
jump_of_a_plain_object = refl
