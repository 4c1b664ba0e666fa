-- Which construct may be called, on what is fresh and on one's own object, by the rule applied to small images with parents.
use Rattle.std.proofs.Common.{◌≡◌, ℕ, List, [], ◌∷◌, replicate, Some, None, Ok, Err, Result, refl}
use Rattle.aom_image.specs.Image.{Image}
use Rattle.aom_image.specs.Small.{a_class, a_header, a_method}
use Rattle.aom_image.specs.Views.{method_at, class_at, arguments_in, gives_in, leaves_in, quiet_in, role_in, class_in, fields_in}
use Rattle.aom_image.specs.declared.class.ClassKind.TheVariants.{Plain}
use Rattle.aom_instructions.specs.declared.version.Version.TheVariants.{Two}
use Rattle.aom_image.specs.declared.method.Gives.TheVariants.{Nothing}
use Rattle.aom_image.specs.declared.method.Role.TheVariants.{Construct, Do}
use Rattle.aom_image.specs.declared.method.Thing.TheVariants.{Object}
use Rattle.aom_instructions.specs.declared.instr.Instr.TheVariants.{Call}
use Rattle.aom_instructions.specs.declared.instr.Target.TheVariants.{Entry as On_entry, Register, This}
use Rattle.aom_link_conditions.specs.Roles.{keeper_in, own_role, fills_role, role_number, role_of}
use Rattle.aom_roles.specs.Families.{descends_in, parent_in}
use Rattle.aom_typing_rules.specs.Rules.{rule}
use Rattle.aom_abstract_state.specs.Arguments.{after_in, before_in}
use Rattle.aom_abstract_state.specs.Needs.{Flow}
use Rattle.aom_abstract_state.specs.AbstractState.{AbstractState}
use Rattle.aom_abstract_state.specs.declared.kind.InitState.{InitState}
use Rattle.aom_abstract_state.specs.declared.kind.InitState.TheVariants.{Fresh, Ready}
use Rattle.aom_abstract_state.specs.declared.kind.MessageState.TheVariants.{Here}
use Rattle.aom_abstract_state.specs.declared.kind.CleanupEntry.TheVariants.{Object as An_object}
use Rattle.aom_abstract_state.specs.declared.kind.FieldState.{FieldState}
use Rattle.aom_abstract_state.specs.declared.kind.FieldState.TheVariants.{Empty, Full, Perhaps}
use Rattle.aom_abstract_state.specs.declared.kind.Kind.TheVariants.{Own}
use Rattle.aom_abstract_state.specs.declared.why.Reason.{Reason}
use Rattle.aom_abstract_state.specs.declared.why.Reason.TheVariants.{FieldNotNull, NotFresh}

-- class 2 descends from class 1, and that from class 0, which has a field; class 2 has one more. Method 0 constructs what is of class 0 or 1,
-- method 1 what is of class 2; method 2 is a plain one of class 2, and method 3 is static
image : Image
image = record {
  header = record (a_header 4 0 0 None 100) { version = Two };
  classes = a_class Plain 0 0 (Object 3 ∷ []) ∷ record (a_class Plain 0 0 (Object 3 ∷ []))
      { parent = Some 0 } ∷ record (a_class Plain 0 0 (Object 3 ∷ Object 3 ∷ [])) { parent = Some 1 } ∷ a_class Plain 0 0 [] ∷ [];
  methods = a_method (Some 0) Construct 0 0 0 [] Nothing [] ∷ a_method (Some 2) Construct 0 0 0 [] Nothing [] ∷ a_method
      (Some 2) Do 0 0 0 [] Nothing [] ∷ a_method None Do 0 0 0 [] Nothing [] ∷ [];
}

-- ---- on what is fresh

-- a state of one register
owning : ℕ → InitState → AbstractState
owning c a = record { registers = Own (Object c) a ∷ []; fields = []; entries = []; states = 0; message_state = Here }

-- what the static method may ask of an object in its register
called_on : ℕ → ℕ → Result (List Flow) Reason
called_on m c = rule image 3 0 (owning c Fresh) (Call (Register 0) m 0 0)

its_own : called_on 1 2 ≡ Ok ((1, owning 2 Ready) ∷ [])
unfolding image owning called_on method_at class_at arguments_in gives_in role_in class_in quiet_in leaves_in before_in after_in fields_in descends_in
    parent_in role_of own_role keeper_in fills_role role_number
its_own = refl

-- class 1 has none of its own
inherited : called_on 0 1 ≡ Ok ((1, owning 1 Ready) ∷ [])
unfolding image owning called_on method_at class_at arguments_in gives_in role_in class_in quiet_in leaves_in before_in after_in fields_in descends_in
    parent_in role_of own_role keeper_in fills_role role_number
inherited = refl

-- class 2 has one of its own, so that of its ancestor is none for it
of_an_ancestor : called_on 0 2 ≡ Err NotFresh
unfolding image owning called_on method_at class_at arguments_in role_in class_in descends_in parent_in role_of own_role keeper_in fills_role role_number
of_an_ancestor = refl

-- nor is it on a cleanup entry
of_an_ancestor_on_an_entry : rule image 3 0
    (record { registers = []; fields = []; entries = An_object 2 Fresh ∷ []; states = 0; message_state = Here }) (Call (On_entry 0) 0 0 0) ≡ Err NotFresh
unfolding image method_at class_at arguments_in role_in class_in descends_in parent_in role_of own_role keeper_in fills_role role_number
of_an_ancestor_on_an_entry = refl

-- ---- on one's own object

-- a state of two fields
field_state : FieldState → FieldState → AbstractState
field_state one two = record { registers = []; fields = one ∷ two ∷ []; entries = []; states = 0; message_state = Here }

called_on_self : ℕ → ℕ → AbstractState → Result (List Flow) Reason
called_on_self caller m sh = rule image caller 0 sh (Call This m 0 0)

-- the construct of class 2 calls that of its parent, which is its grandparent's; after it all fields are perhaps, also its own
parents_construct : called_on_self 1 0 (field_state Empty Full) ≡ Ok ((1, record (field_state Empty Full) { fields = replicate 8 Perhaps }) ∷ [])
unfolding image field_state called_on_self method_at class_at arguments_in gives_in role_in class_in quiet_in leaves_in before_in after_in fields_in descends_in
    parent_in role_of own_role keeper_in fills_role role_number
parents_construct = refl

over_a_full_field : called_on_self 1 0 (field_state Full Empty) ≡ Err FieldNotNull
unfolding image field_state called_on_self method_at class_at arguments_in gives_in role_in class_in fields_in descends_in parent_in role_of own_role keeper_in
    fills_role role_number
over_a_full_field = refl

over_a_field_that_may_be_full : called_on_self 1 0 (field_state Perhaps Empty) ≡ Err FieldNotNull
unfolding image field_state called_on_self method_at class_at arguments_in gives_in role_in class_in fields_in descends_in parent_in role_of own_role keeper_in
    fills_role role_number
over_a_field_that_may_be_full = refl

-- its own is none of the parent's
own_construct : called_on_self 1 1 (field_state Empty Empty) ≡ Err NotFresh
unfolding image field_state called_on_self method_at class_at arguments_in gives_in role_in class_in fields_in descends_in parent_in role_of own_role keeper_in
    fills_role role_number
own_construct = refl

-- no other method calls a construct on its own object
by_a_plain_method : called_on_self 2 0 (field_state Empty Empty) ≡ Err NotFresh
unfolding image field_state called_on_self method_at class_at arguments_in gives_in role_in class_in fields_in descends_in parent_in role_of own_role keeper_in
    fills_role role_number
by_a_plain_method = refl
