-- Where an object of a descendant may stand for one of its ancestor, and that an ancestor stands for none.
use Rattle.std.proofs.Common.{◌≡◌, ℕ, List, [], ◌∷◌, Option, Some, None, Ok, Err, refl}
use Rattle.aom_image.specs.Image.{Image}
use Rattle.aom_image.specs.Small.{a_class, a_header, a_method}
use Rattle.aom_image.specs.Views.{method_at, class_at, arguments_in, gives_in, leaves_in, quiet_in, role_in, class_in, fields_in}
use Rattle.aom_image.specs.declared.class.ClassDecl.{ClassDecl}
use Rattle.aom_image.specs.declared.class.ClassKind.TheVariants.{Plain}
use Rattle.aom_instructions.specs.declared.version.Version.TheVariants.{Two}
use Rattle.aom_image.specs.declared.method.Argument.{Argument}
use Rattle.aom_image.specs.declared.method.Argument.TheVariants.{Own as An_own_argument}
use Rattle.aom_image.specs.declared.method.Gives.{Gives}
use Rattle.aom_image.specs.declared.method.Gives.TheVariants.{Nothing, Own as An_own}
use Rattle.aom_image.specs.declared.method.Role.TheVariants.{Do}
use Rattle.aom_image.specs.declared.method.Thing.TheVariants.{Object}
use Rattle.aom_instructions.specs.declared.instr.Instr.TheVariants.{Call, Put, Return}
use Rattle.aom_instructions.specs.declared.instr.Target.TheVariants.{This, Register}
use Rattle.aom_roles.specs.Classes.{kind_in}
use Rattle.aom_roles.specs.Families.{descends_in, parent_in}
use Rattle.aom_roles.specs.Shapes.{kind_of}
use Rattle.aom_roles.specs.States.{states_of}
use Rattle.aom_typing_rules.specs.Rules.{rule}
use Rattle.aom_abstract_state.specs.Arguments.{after_in, before_in}
use Rattle.aom_abstract_state.specs.AbstractState.{AbstractState}
use Rattle.aom_abstract_state.specs.declared.kind.InitState.TheVariants.{Fresh, Ready}
use Rattle.aom_abstract_state.specs.declared.kind.MessageState.TheVariants.{Here}
use Rattle.aom_abstract_state.specs.declared.kind.FieldState.{FieldState}
use Rattle.aom_abstract_state.specs.declared.kind.FieldState.TheVariants.{Empty, Full}
use Rattle.aom_abstract_state.specs.declared.kind.Kind.{Kind}
use Rattle.aom_abstract_state.specs.declared.kind.Kind.TheVariants.{Unset, Null, Own}
use Rattle.aom_abstract_state.specs.declared.why.Reason.TheVariants.{RegisterKind, StillFresh}

-- class 1 is the child of class 0, and class 2 that of class 1; class 3 has a field of class 0, and class 4 one of class 2
classes : List ClassDecl
classes = a_class Plain 0 0 [] ∷ record (a_class Plain 0 0 []) { parent = Some 0 } ∷ record (a_class Plain 0 0 []) { parent = Some 1 } ∷ a_class Plain 0 0
    (Object 0 ∷ []) ∷ a_class Plain 0 0 (Object 2 ∷ []) ∷ []

-- method 0 is of a class or of none, and method 1 calls it
image : Option ℕ → List Argument → Gives → Option ℕ → Image
image callee arguments gives caller = record {
  header = record (a_header 4 0 0 None 100) { version = Two };
  classes = classes;
  methods = a_method callee Do 0 0 0 arguments gives [] ∷ a_method caller Do 0 0 0 [] Nothing [] ∷ [];
}

-- a state of one register and a field
state : Kind → FieldState → AbstractState
state first field_state = record { registers = first ∷ []; fields = field_state ∷ []; entries = []; states = 0; message_state = Here }

-- ---- fields

put_of_a_grandchild : rule (image None [] Nothing (Some 3)) 1 0 (state (Own (Object 2) Ready) Empty) (Put 0 0) ≡ Ok ((1, state Null Full) ∷ [])
unfolding image state classes method_at class_at role_in class_in fields_in descends_in parent_in
put_of_a_grandchild = refl

put_of_an_ancestor : rule (image None [] Nothing (Some 4)) 1 0 (state (Own (Object 1) Ready) Empty) (Put 0 0) ≡ Err RegisterKind
unfolding image state classes method_at class_at role_in class_in fields_in descends_in parent_in
put_of_an_ancestor = refl

put_of_a_fresh_child : rule (image None [] Nothing (Some 3)) 1 0 (state (Own (Object 1) Fresh) Empty) (Put 0 0) ≡ Err StillFresh
unfolding image state classes method_at class_at role_in class_in fields_in descends_in parent_in
put_of_a_fresh_child = refl

-- ---- calls

called_on_a_child :
    rule (image (Some 0) [] Nothing None) 1 0 (state (Own (Object 1) Ready) Empty) (Call (Register 0) 0 0 0) ≡ Ok ((1, state (Own (Object 1) Ready) Empty) ∷ [])
unfolding image state classes method_at class_at arguments_in gives_in role_in class_in quiet_in leaves_in before_in after_in kind_of kind_in states_of
    descends_in
    parent_in
called_on_a_child = refl

called_on_a_parent : rule (image (Some 1) [] Nothing None) 1 0 (state (Own (Object 0) Ready) Empty) (Call (Register 0) 0 0 0) ≡ Err RegisterKind
unfolding image state classes method_at class_at arguments_in role_in class_in descends_in parent_in
called_on_a_parent = refl

called_on_self_by_a_parent : rule (image (Some 1) [] Nothing (Some 0)) 1 0 (state Unset Empty) (Call This 0 0 0) ≡ Err RegisterKind
unfolding image state classes method_at class_at arguments_in role_in class_in descends_in parent_in
called_on_self_by_a_parent = refl

argument_of_a_child : rule (image None (An_own_argument (Object 0) ∷ []) Nothing None) 1 0 (state (Own (Object 1) Ready) Empty) (Call This 0 0 1)
    ≡ Ok ((1, state Null Empty) ∷ [])
unfolding image state classes method_at class_at arguments_in gives_in role_in class_in quiet_in leaves_in after_in descends_in parent_in
argument_of_a_child = refl

argument_of_a_parent :
    rule (image None (An_own_argument (Object 1) ∷ []) Nothing None) 1 0 (state (Own (Object 0) Ready) Empty) (Call This 0 0 1) ≡ Err RegisterKind
unfolding image state classes method_at class_at arguments_in role_in class_in descends_in parent_in
argument_of_a_parent = refl

-- ---- results

return_of_a_child : rule (image None [] (An_own (Object 0)) None) 0 0 (state (Own (Object 1) Ready) Empty) (Return 0) ≡ Ok []
unfolding image state classes method_at class_at gives_in role_in class_in quiet_in after_in descends_in parent_in
return_of_a_child = refl

return_of_a_parent : rule (image None [] (An_own (Object 1)) None) 0 0 (state (Own (Object 0) Ready) Empty) (Return 0) ≡ Err RegisterKind
unfolding image state classes method_at class_at gives_in role_in class_in quiet_in descends_in parent_in
return_of_a_parent = refl
