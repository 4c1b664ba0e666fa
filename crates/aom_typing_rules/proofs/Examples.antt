-- One refused instruction for each why that the rules give so far, and states that meet and do not meet.
use Rattle.std.proofs.Common.{◌≡◌, ℕ, pos, List, [], ◌∷◌, Option, Some, None, Ok, Err, refl}
use Rattle.aom_image.specs.Image.{Image}
use Rattle.aom_image.specs.Small.{a_class, a_header, a_method}
use Rattle.aom_image.specs.Views.{method_at, class_at, arguments_in, gives_in, leaves_in, quiet_in, role_in, class_in, fields_in}
use Rattle.aom_image.specs.declared.class.ClassDecl.{ClassDecl}
use Rattle.aom_image.specs.declared.class.ClassKind.TheVariants.{Plain}
use Rattle.aom_instructions.specs.declared.instr.Instr.TheVariants.{Const, Add, JumpEmpty, Load, Store, Put, New, NewOrLeave, Push, PushOperation, Pop}
use Rattle.aom_instructions.specs.declared.instr.Instr.TheVariants.{PopOperation, Call, Trap, Return, Leave}
use Rattle.aom_instructions.specs.declared.instr.Target.TheVariants.{This, Register, Field, Entry as On_entry}
use Rattle.aom_image.specs.declared.method.Argument.{Argument}
use Rattle.aom_image.specs.declared.method.Argument.TheVariants.{Own as An_own_argument}
use Rattle.aom_image.specs.declared.method.Gives.{Gives}
use Rattle.aom_image.specs.declared.method.Gives.TheVariants.{Nothing, Word as A_word, Own as An_own, Left}
use Rattle.aom_image.specs.declared.method.Role.{Role}
use Rattle.aom_image.specs.declared.method.Role.TheVariants.{Main, Do, Construct, Destruct}
use Rattle.aom_image.specs.declared.method.Thing.TheVariants.{Object}
use Rattle.aom_link_conditions.specs.Roles.{keeper_in, own_role, fills_role, role_number, role_of}
use Rattle.aom_roles.specs.Families.{descends_in, parent_in}
use Rattle.aom_typing_rules.specs.Rules.{rule}
use Rattle.aom_abstract_state.specs.Arguments.{after_in}
use Rattle.aom_abstract_state.specs.AbstractState.{AbstractState}
use Rattle.aom_roles.specs.Things.{words_in}
use Rattle.aom_abstract_state.specs.declared.kind.InitState.TheVariants.{Fresh, Ready}
use Rattle.aom_abstract_state.specs.declared.kind.MessageState.TheVariants.{Here}
use Rattle.aom_abstract_state.specs.declared.kind.CleanupEntry.{CleanupEntry}
use Rattle.aom_abstract_state.specs.declared.kind.CleanupEntry.TheVariants.{Object as An_object, Operation}
use Rattle.aom_abstract_state.specs.declared.kind.FieldState.{FieldState}
use Rattle.aom_abstract_state.specs.declared.kind.FieldState.TheVariants.{Empty, Full, Perhaps}
use Rattle.aom_abstract_state.specs.declared.kind.Kind.{Kind}
use Rattle.aom_abstract_state.specs.declared.kind.Kind.TheVariants.{Unset, Word, Null, Own, Maybe}
use Rattle.aom_abstract_state.specs.declared.why.Reason.TheVariants.{RegisterKind, OwnedAtLeave, OwnedAtReturn, CleanupAtReturn, PopEmpty, LeaveNotAllowed, FieldNotNull}
use Rattle.aom_abstract_state.specs.declared.why.Reason.TheVariants.{FieldsLeft, NotFresh, StillFresh, QuietBroken}

-- class 1 has a field of class 0
classes : List ClassDecl
classes = a_class Plain 0 0 [] ∷ a_class Plain 0 0 (Object 0 ∷ []) ∷ []

-- an image with one method
with_method : Option ℕ → Role → ℕ → Gives → Image
with_method class role flags gives = record { header = a_header 4 0 0 None 100; classes = classes; methods = a_method class role flags 0 0 [] gives [] ∷ [] }

-- a state of two registers and a field
state : Kind → Kind → FieldState → AbstractState
state first second field_state = record { registers = first ∷ second ∷ []; fields = field_state ∷ []; entries = []; states = 0; message_state = Here }

const_over_an_owner : rule (with_method None Main 0 Nothing) 0 0 (state (Own (Object 0) Ready) Unset Empty) (Const 0 (pos 5)) ≡ Err RegisterKind
unfolding with_method state descends_in parent_in class_at classes
const_over_an_owner = refl

return_with_an_owner : rule (with_method None Main 0 Nothing) 0 0 (state Unset (Own (Object 0) Ready) Empty) (Return 0) ≡ Err OwnedAtReturn
unfolding with_method state method_at gives_in quiet_in role_in class_in descends_in parent_in class_at classes
return_with_an_owner = refl

return_of_another_register : rule (with_method None Main 0 Nothing) 0 0 (state Unset Unset Empty) (Return 1) ≡ Err RegisterKind
unfolding with_method state method_at gives_in quiet_in role_in class_in descends_in parent_in class_at classes
return_of_another_register = refl

new_in_a_quiet_method : rule (with_method None Main 2 Nothing) 0 0 (state Unset Unset Empty) (New 0 0) ≡ Err QuietBroken
unfolding with_method state method_at quiet_in descends_in parent_in class_at classes
new_in_a_quiet_method = refl

put_into_a_full_field : rule (with_method (Some 1) Do 0 Nothing) 0 0 (state (Own (Object 0) Ready) Unset Full) (Put 0 0) ≡ Err FieldNotNull
unfolding with_method state classes method_at class_at role_in class_in fields_in descends_in parent_in
put_into_a_full_field = refl

put_of_a_fresh_object : rule (with_method (Some 1) Do 0 Nothing) 0 0 (state (Own (Object 0) Fresh) Unset Empty) (Put 0 0) ≡ Err StillFresh
unfolding with_method state classes method_at class_at role_in class_in fields_in descends_in parent_in
put_of_a_fresh_object = refl

put_of_another_class : rule (with_method (Some 1) Do 0 Nothing) 0 0 (state (Own (Object 1) Ready) Unset Empty) (Put 0 0) ≡ Err RegisterKind
unfolding with_method state classes method_at class_at role_in class_in fields_in descends_in parent_in
put_of_another_class = refl

destructor_with_a_full_field : rule (with_method (Some 1) Destruct 2 Nothing) 0 0 (state Null Unset Full) (Return 0) ≡ Err FieldsLeft
unfolding with_method state classes method_at class_at gives_in role_in class_in fields_in descends_in parent_in
destructor_with_a_full_field = refl

nothing_left_at_return : rule (with_method None Do 1 (Left 0)) 0 0 (state Unset Unset Empty) (Return 0) ≡ Err CleanupAtReturn
unfolding with_method state method_at gives_in descends_in parent_in class_at classes
nothing_left_at_return = refl

add_of_an_owner : rule (with_method None Main 0 Nothing) 0 0 (state Null Unset Empty) (Add 1 0 0) ≡ Err RegisterKind
unfolding with_method state descends_in parent_in class_at classes
add_of_an_owner = refl

load_past_the_words : rule (with_method (Some 1) Do 0 Nothing) 0 0 (state Unset Unset Empty) (Load 0 0) ≡ Err RegisterKind
unfolding with_method state classes method_at class_at role_in class_in words_in descends_in parent_in
load_past_the_words = refl

store_of_main : rule (with_method None Main 0 Nothing) 0 0 (state Word Unset Empty) (Store 0 0) ≡ Err RegisterKind
unfolding with_method state method_at role_in class_in descends_in parent_in class_at classes
store_of_main = refl

jump_past_the_fields : rule (with_method (Some 1) Do 0 Nothing) 0 0 (state Unset Unset Empty) (JumpEmpty 1 5) ≡ Err RegisterKind
unfolding with_method state classes method_at class_at role_in class_in fields_in descends_in parent_in
jump_past_the_fields = refl

-- method 0 is called by method 1
called_by : (class : Option ℕ) (role : Role) (flags : ℕ) (arguments : List Argument) (gives : Gives) (caller : Option ℕ) (caller_flags : ℕ) → Image
called_by class role flags arguments gives caller caller_flags = record {
  header = a_header 4 0 0 None 100;
  classes = classes;
  methods = a_method class role flags 0 0 arguments gives [] ∷ a_method caller Do caller_flags 0 0 [] Nothing [] ∷ [];
}

call_on_an_argument : rule (called_by (Some 0) Do 0 (An_own_argument (Object 0) ∷ []) Nothing None 0) 1 0 (state (Own (Object 0) Ready) Unset Empty)
    (Call (Register 0) 0 0 1) ≡ Err RegisterKind
unfolding called_by state method_at arguments_in role_in class_in descends_in parent_in class_at classes
call_on_an_argument = refl

call_of_another_class_on_self : rule (called_by (Some 0) Do 0 [] Nothing (Some 1) 0) 1 0 (state Unset Unset Empty) (Call This 0 0 0) ≡ Err RegisterKind
unfolding called_by state method_at arguments_in role_in class_in descends_in parent_in class_at classes
call_of_another_class_on_self = refl

call_on_a_field_that_may_be_null : rule (called_by (Some 0) Do 0 [] Nothing (Some 1) 0) 1 0 (state Unset Unset Perhaps) (Call (Field 0) 0 0 0) ≡ Err RegisterKind
unfolding called_by state classes method_at class_at arguments_in role_in class_in fields_in descends_in parent_in
call_on_a_field_that_may_be_null = refl

call_on_a_missing_entry : rule (called_by (Some 0) Do 0 [] Nothing None 0) 1 0 (state Unset Unset Empty) (Call (On_entry 0) 0 0 0) ≡ Err PopEmpty
unfolding called_by state method_at arguments_in role_in class_in descends_in parent_in class_at classes
call_on_a_missing_entry = refl

call_on_a_fresh_object : rule (called_by (Some 0) Do 0 [] Nothing None 0) 1 0 (state (Own (Object 0) Fresh) Unset Empty) (Call (Register 0) 0 1 1) ≡ Err StillFresh
unfolding called_by state method_at arguments_in role_in class_in descends_in parent_in class_at classes
call_on_a_fresh_object = refl

construct_of_a_ready_object : rule (called_by (Some 0) Construct 0 [] Nothing None 0) 1 0 (state (Own (Object 0) Ready) Unset Empty) (Call (Register 0) 0 1 1)
    ≡ Err NotFresh
unfolding called_by state method_at arguments_in role_in class_in descends_in parent_in class_at classes
construct_of_a_ready_object = refl

construct_on_self : rule (called_by (Some 0) Construct 0 [] Nothing (Some 0) 0) 1 0 (state Unset Unset Empty) (Call This 0 0 0) ≡ Err NotFresh
unfolding called_by state method_at arguments_in role_in class_in descends_in parent_in class_at classes
construct_on_self = refl

argument_past_the_registers : rule (called_by None Do 0 (An_own_argument (Object 0) ∷ An_own_argument (Object 0) ∷ []) Nothing None 0) 1 0
    (state Unset Unset Empty) (Call This 0 15 0) ≡ Err RegisterKind
unfolding called_by state method_at arguments_in role_in class_in descends_in parent_in class_at classes
argument_past_the_registers = refl

fresh_argument : rule (called_by None Do 0 (An_own_argument (Object 0) ∷ []) Nothing None 0) 1 0 (state (Own (Object 0) Fresh) Unset Empty) (Call This 0 0 1)
    ≡ Err StillFresh
unfolding called_by state method_at arguments_in role_in class_in descends_in parent_in class_at classes
fresh_argument = refl

quiet_calls_another : rule (called_by None Do 0 [] Nothing None 2) 1 0 (state Unset Unset Empty) (Call This 0 0 0) ≡ Err QuietBroken
unfolding called_by state method_at arguments_in role_in class_in quiet_in descends_in parent_in class_at classes
quiet_calls_another = refl

result_over_an_owner : rule (called_by None Do 0 [] A_word None 0) 1 0 (state (Own (Object 0) Ready) Unset Empty) (Call This 0 0 0) ≡ Err RegisterKind
unfolding called_by state method_at arguments_in role_in class_in quiet_in gives_in descends_in parent_in class_at classes
result_over_an_owner = refl

leave_from_a_method_that_may_not : rule (called_by None Do 1 [] Nothing None 0) 1 0 (state Unset Unset Empty) (Call This 0 0 0) ≡ Err LeaveNotAllowed
unfolding called_by state method_at arguments_in role_in class_in quiet_in gives_in leaves_in descends_in parent_in class_at classes
leave_from_a_method_that_may_not = refl

leave_with_an_owner : rule (called_by None Do 1 [] Nothing None 1) 1 0 (state (Own (Object 0) Ready) Unset Empty) (Call This 0 1 1) ≡ Err OwnedAtLeave
unfolding called_by state method_at arguments_in role_in class_in quiet_in gives_in leaves_in descends_in parent_in class_at classes
leave_with_an_owner = refl

-- and one that passes: the object is ready after its construct method, and the argument has moved
construct_with_an_argument : rule (called_by (Some 1) Construct 0 (An_own_argument (Object 0) ∷ []) Nothing None 0) 1 0
    (state (Own (Object 1) Fresh) (Own (Object 0) Ready) Empty) (Call (Register 0) 0 1 0) ≡ Ok ((1, state (Own (Object 1) Ready) Null Empty) ∷ [])
unfolding called_by state method_at arguments_in role_in class_in quiet_in gives_in leaves_in descends_in parent_in class_at classes
    role_of keeper_in own_role fills_role role_number
construct_with_an_argument = refl

-- ---- the cleanup stack, and leaves

-- a state of two registers and cleanup entries
stacked : Kind → Kind → List CleanupEntry → AbstractState
stacked first second entries = record { registers = first ∷ second ∷ []; fields = Empty ∷ []; entries = entries; states = 0; message_state = Here }

push_with_another_owner : rule (with_method None Do 1 Nothing) 0 0 (stacked (Own (Object 0) Ready) (Own (Object 0) Ready) []) (Push 0) ≡ Err OwnedAtLeave
unfolding with_method stacked method_at leaves_in descends_in parent_in class_at classes
push_with_another_owner = refl

push_of_what_may_be_null : rule (with_method None Do 1 Nothing) 0 0 (stacked (Maybe (Object 0) Ready) Unset []) (Push 0) ≡ Err RegisterKind
unfolding with_method stacked descends_in parent_in class_at classes
push_of_what_may_be_null = refl

push_in_a_method_that_may_not_leave : rule (with_method None Do 0 Nothing) 0 0 (stacked (Own (Object 0) Ready) Unset []) (Push 0) ≡ Err LeaveNotAllowed
unfolding with_method stacked method_at leaves_in descends_in parent_in class_at classes
push_in_a_method_that_may_not_leave = refl

push_operation_of_no_word : rule (with_method None Do 1 Nothing) 0 0 (stacked Unset Unset []) (PushOperation 0 0) ≡ Err RegisterKind
unfolding with_method stacked descends_in parent_in class_at classes
push_operation_of_no_word = refl

new_or_leave_with_an_owner : rule (with_method None Do 1 Nothing) 0 0 (stacked (Own (Object 0) Ready) Unset []) (NewOrLeave 1 0) ≡ Err OwnedAtLeave
unfolding with_method stacked method_at leaves_in quiet_in descends_in parent_in class_at classes
new_or_leave_with_an_owner = refl

leave_in_a_method_that_may_not : rule (with_method None Do 0 Nothing) 0 0 (stacked Word Unset []) (Leave 0) ≡ Err LeaveNotAllowed
unfolding with_method stacked method_at leaves_in descends_in parent_in class_at classes
leave_in_a_method_that_may_not = refl

leave_with_no_word : rule (with_method None Do 1 Nothing) 0 0 (stacked Null Unset []) (Leave 0) ≡ Err RegisterKind
unfolding with_method stacked descends_in parent_in class_at classes
leave_with_no_word = refl

pop_of_nothing : rule (with_method None Do 1 Nothing) 0 0 (stacked Unset Unset []) (Pop 0) ≡ Err PopEmpty
unfolding with_method stacked descends_in parent_in class_at classes
pop_of_nothing = refl

pop_of_an_operation : rule (with_method None Do 1 Nothing) 0 0 (stacked Unset Unset (Operation ∷ [])) (Pop 0) ≡ Err RegisterKind
unfolding with_method stacked descends_in parent_in class_at classes
pop_of_an_operation = refl

pop_operation_of_an_object : rule (with_method None Do 1 Nothing) 0 0 (stacked Unset Unset (An_object 0 Ready ∷ [])) PopOperation ≡ Err RegisterKind
unfolding with_method stacked descends_in parent_in class_at classes
pop_operation_of_an_object = refl

return_with_an_entry : rule (with_method None Do 1 Nothing) 0 0 (stacked Unset Unset (An_object 0 Ready ∷ [])) (Return 0) ≡ Err CleanupAtReturn
unfolding with_method stacked method_at gives_in descends_in parent_in class_at classes
return_with_an_entry = refl

left_of_another_class : rule (with_method None Do 1 (Left 0)) 0 0 (stacked Unset Unset (An_object 1 Ready ∷ [])) (Return 0) ≡ Err CleanupAtReturn
unfolding with_method stacked method_at gives_in descends_in parent_in class_at classes
left_of_another_class = refl

left_over_another_entry : rule (with_method None Do 1 (Left 0)) 0 0 (stacked Unset Unset (An_object 0 Ready ∷ Operation ∷ [])) (Return 0) ≡ Err CleanupAtReturn
unfolding with_method stacked method_at gives_in descends_in parent_in class_at classes
left_over_another_entry = refl

call_on_a_fresh_entry : rule (called_by (Some 0) Do 0 [] Nothing None 0) 1 0 (stacked Unset Unset (Operation ∷ An_object 0 Fresh ∷ []))
    (Call (On_entry 1) 0 0 0) ≡ Err StillFresh
unfolding called_by stacked method_at arguments_in role_in class_in descends_in parent_in class_at classes
call_on_a_fresh_entry = refl

call_on_an_operation : rule (called_by (Some 0) Do 0 [] Nothing None 0) 1 0 (stacked Unset Unset (Operation ∷ [])) (Call (On_entry 0) 0 0 0) ≡ Err RegisterKind
unfolding called_by stacked method_at arguments_in role_in class_in descends_in parent_in class_at classes
call_on_an_operation = refl

trap_in_a_quiet_method : rule (called_by None Do 1 [] Nothing None 2) 1 0 (stacked Unset Unset []) (Trap This 0 0 0) ≡ Err QuietBroken
unfolding called_by stacked method_at quiet_in descends_in parent_in class_at classes
trap_in_a_quiet_method = refl

code_over_an_owner : rule (called_by None Do 1 [] Nothing None 0) 1 0 (stacked Unset (Own (Object 0) Ready) []) (Trap This 0 0 0) ≡ Err RegisterKind
unfolding called_by stacked method_at arguments_in role_in class_in quiet_in gives_in descends_in parent_in class_at classes
code_over_an_owner = refl

-- and some that pass: an object goes to the stack and comes back, and another is left to the caller
pushed : rule (with_method None Do 1 Nothing) 0 0 (stacked (Own (Object 1) Fresh) Word []) (Push 0) ≡ Ok ((1, stacked Null Word (An_object 1 Fresh ∷ [])) ∷ [])
unfolding with_method stacked method_at leaves_in descends_in parent_in class_at classes
pushed = refl

popped : rule (with_method None Do 1 Nothing) 0 0 (stacked Null Word (An_object 1 Ready ∷ Operation ∷ [])) (Pop 0)
    ≡ Ok ((1, stacked (Own (Object 1) Ready) Word (Operation ∷ [])) ∷ [])
unfolding with_method stacked descends_in parent_in class_at classes
popped = refl

left_to_the_caller : rule (called_by None Do 1 [] (Left 1) None 1) 1 0 (stacked Word Word (Operation ∷ [])) (Call This 0 0 0)
    ≡ Ok ((1, stacked Word Word (An_object 1 Ready ∷ Operation ∷ [])) ∷ [])
unfolding called_by stacked method_at arguments_in role_in class_in quiet_in gives_in leaves_in descends_in parent_in class_at classes
left_to_the_caller = refl

left_at_return : rule (with_method None Do 1 (Left 0)) 0 0 (stacked Word Unset (An_object 0 Ready ∷ [])) (Return 0) ≡ Ok []
unfolding with_method stacked method_at gives_in quiet_in role_in class_in after_in descends_in parent_in class_at classes
left_at_return = refl

constructed_on_the_stack : rule (called_by (Some 0) Construct 1 [] Nothing None 1) 1 0
    (stacked Unset Unset (An_object 0 Fresh ∷ [])) (Call (On_entry 0) 0 0 0) ≡ Ok ((1, stacked Unset Unset (An_object 0 Ready ∷ [])) ∷ [])
unfolding called_by stacked method_at arguments_in role_in class_in quiet_in gives_in leaves_in descends_in parent_in class_at classes
    role_of keeper_in own_role fills_role role_number
constructed_on_the_stack = refl

trapped : rule (called_by None Do 1 [] (An_own (Object 0)) None 0) 1 0 (stacked Unset Null []) (Trap This 0 0 0)
    ≡ Ok ((1, stacked (Maybe (Object 0) Ready) Word []) ∷ [])
unfolding called_by stacked method_at arguments_in role_in class_in quiet_in gives_in descends_in parent_in class_at classes
trapped = refl
