-- One refused instruction for each need at a native, and some that pass.
use Rattle.std.proofs.Common.{◌≡◌, ℕ, List, [], ◌∷◌, Some, None, Result, Ok, Err, refl}
use Rattle.aom_image.specs.Image.{Image}
use Rattle.aom_image.specs.Small.{a_class, a_header, a_method}
use Rattle.aom_image.specs.Views.{class_at, class_in, method_at}
use Rattle.aom_image.specs.declared.class.ClassDecl.{ClassDecl}
use Rattle.aom_image.specs.declared.class.ClassKind.TheVariants.{Active, Plain}
use Rattle.aom_image.specs.declared.class.Provider.TheVariants.{Native, Own as No_provider, Timer}
use Rattle.aom_image.specs.declared.method.Gives.TheVariants.{Nothing}
use Rattle.aom_image.specs.declared.method.Method.{Method}
use Rattle.aom_image.specs.declared.method.Role.TheVariants.{Do}
use Rattle.aom_image.specs.declared.method.Thing.TheVariants.{Object}
use Rattle.aom_roles.specs.Families.{descends_in}
use Rattle.aom_instructions.specs.declared.instr.Instr.{Instr}
use Rattle.aom_instructions.specs.declared.instr.Instr.TheVariants.{Ask, Close, Connect}
use Rattle.aom_roles.specs.Classes.{kind_in}
use Rattle.aom_roles.specs.Shapes.{kind_of}
use Rattle.aom_typing_rules.specs.Rules.{rule}
use Rattle.aom_abstract_state.specs.Needs.{Flow}
use Rattle.aom_abstract_state.specs.AbstractState.{AbstractState}
use Rattle.aom_abstract_state.specs.declared.kind.InitState.TheVariants.{Ready}
use Rattle.aom_abstract_state.specs.declared.kind.MessageState.TheVariants.{Here}
use Rattle.aom_abstract_state.specs.declared.kind.Kind.{Kind}
use Rattle.aom_abstract_state.specs.declared.kind.Kind.TheVariants.{Own, Unset, Word}
use Rattle.aom_abstract_state.specs.declared.why.Reason.{Reason}
use Rattle.aom_abstract_state.specs.declared.why.Reason.TheVariants.{NotIdle, RegisterKind}

-- a native serves class 0, a timer class 1, nothing class 2, and class 3 is plain
classes : List ClassDecl
classes = a_class (Active (Native 0)) 10 0 [] ∷ a_class (Active Timer) 10 0 [] ∷ a_class (Active No_provider) 10 0 [] ∷ a_class Plain 0 0 [] ∷ []

-- it may leave, and begin and end in those states
method : (class before after : ℕ) → Method
method class before after = a_method (Some class) Do 1 before after [] Nothing []

-- its only method is of that class
of_class : (class before after : ℕ) → Image
of_class class before after = record { header = a_header 4 1 1 None 100; classes = classes; methods = method class before after ∷ [] }

-- a state of two registers
state : (a b : Kind) → ℕ → AbstractState
state a b states = record { registers = a ∷ b ∷ []; fields = []; entries = []; states = states; message_state = Here }

-- what the rule says of an instruction of a method of that class, which begins and ends in those states
abbrev Says : Image → AbstractState → Instr → Result (List Flow) Reason → Type 0
Says p s i answer = rule p 0 0 s i ≡ answer

-- `connect`: at a timer, at no provider, of a plain object, and over an owner; it passes in any state of the object, and the answer is a word
connect_says :
    Says (of_class 1 11 11) (state Unset Unset 1) (Connect 0) (Err RegisterKind)
    × Says (of_class 2 11 11) (state Unset Unset 1) (Connect 0) (Err RegisterKind)
    × Says (of_class 3 0 0) (state Unset Unset 0) (Connect 0) (Err RegisterKind)
    × Says (of_class 0 11 11) (state (Own (Object 3) Ready) Unset 1) (Connect 0) (Err RegisterKind)
    × Says (of_class 0 11 11) (state Unset Unset 11) (Connect 0) (Ok ((1, state Word Unset 11) ∷ []))
unfolding of_class method state classes method_at class_at class_in kind_of kind_in descends_in
connect_says = (refl, refl, refl, refl, refl)

-- `ask`: at a timer, of a plain object, of no function, with no word, and over an owner; it passes in any state of the object
ask_says : Says (of_class 1 11 11) (state Word Word 1) (Ask 0 0 1) (Err RegisterKind) × Says (of_class 3 0 0) (state Word Word 0) (Ask 0 0 1) (Err RegisterKind)
    × Says (of_class 0 11 11) (state Unset Word 1) (Ask 0 0 1) (Err RegisterKind) × Says (of_class 0 11 11) (state Word Unset 1) (Ask 0 0 1) (Err RegisterKind)
    × Says (of_class 0 11 11) (state (Own (Object 3) Ready) Word 1) (Ask 0 1 1) (Err RegisterKind)
    × Says (of_class 0 11 11) (state Unset Word 11) (Ask 0 1 1) (Ok ((1, state Word Word 11) ∷ []))
unfolding of_class method state classes method_at class_at class_in kind_of kind_in descends_in
ask_says = (refl, refl, refl, refl, refl, refl)

-- `close`: at a timer, of a plain object, while it has issued, while it is active, and in a cancel; it passes once the object is idle
close_says : Says (of_class 1 11 11) (state Unset Unset 1) Close (Err RegisterKind) × Says (of_class 3 0 0) (state Unset Unset 0) Close (Err RegisterKind)
    × Says (of_class 0 11 11) (state Unset Unset 6) Close (Err NotIdle) × Says (of_class 0 11 11) (state Unset Unset 11) Close (Err NotIdle) × Says
    (of_class 0 11 11) (state Unset Unset 32) Close (Err NotIdle) × Says (of_class 0 11 11) (state Unset Unset 3) Close (Ok ((1, state Unset Unset 3) ∷ []))
unfolding of_class method state classes method_at class_at class_in kind_of kind_in descends_in
close_says = (refl, refl, refl, refl, refl, refl)
