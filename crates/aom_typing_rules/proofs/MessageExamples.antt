-- One refused instruction for each need of a message, and some that pass.
use Rattle.std.proofs.Common.{◌≡◌, [], ◌∷◌, Some, None, Ok, Err, refl}
use Rattle.aom_image.specs.Image.{Image}
use Rattle.aom_image.specs.Small.{a_class, a_header, a_method}
use Rattle.aom_image.specs.Views.{method_at, role_in}
use Rattle.aom_image.specs.declared.class.ClassKind.TheVariants.{Plain}
use Rattle.aom_image.specs.declared.method.Gives.TheVariants.{Nothing}
use Rattle.aom_image.specs.declared.method.Role.{Role}
use Rattle.aom_image.specs.declared.method.Role.TheVariants.{Do, Service}
use Rattle.aom_image.specs.declared.method.Thing.TheVariants.{Message, Object}
use Rattle.aom_roles.specs.Families.{descends_in}
use Rattle.aom_instructions.specs.declared.instr.Instr.TheVariants.{Reply, TakeMessage}
use Rattle.aom_typing_rules.specs.Rules.{rule}
use Rattle.aom_abstract_state.specs.AbstractState.{AbstractState}
use Rattle.aom_abstract_state.specs.declared.kind.InitState.TheVariants.{Ready}
use Rattle.aom_abstract_state.specs.declared.kind.MessageState.{MessageState}
use Rattle.aom_abstract_state.specs.declared.kind.MessageState.TheVariants.{Gone, Here}
use Rattle.aom_abstract_state.specs.declared.kind.Kind.{Kind}
use Rattle.aom_abstract_state.specs.declared.kind.Kind.TheVariants.{Maybe, Null, Own, Unset, Word}
use Rattle.aom_abstract_state.specs.declared.why.Reason.TheVariants.{RegisterKind}

-- its only method is of a plain class, in that role
of_role : Role → Image
of_role role = record { header = a_header 4 1 0 None 100; classes = a_class Plain 0 0 [] ∷ []; methods = a_method (Some 0) role 1 0 0 [] Nothing [] ∷ [] }

-- a state of two registers
state : (a b : Kind) → MessageState → AbstractState
state a b message_state = record { registers = a ∷ b ∷ []; fields = []; entries = []; states = 0; message_state = message_state }

-- ---- takemsg

take_where_none_is_served : rule (of_role Do) 0 0 (state Unset Unset Here) (TakeMessage 0) ≡ Err RegisterKind
unfolding of_role state method_at role_in descends_in
take_where_none_is_served = refl

take_of_what_is_gone : rule (of_role Service) 0 0 (state Unset Unset Gone) (TakeMessage 0) ≡ Err RegisterKind
unfolding of_role state method_at role_in descends_in
take_of_what_is_gone = refl

take_over_an_owner : rule (of_role Service) 0 0 (state (Own (Object 0) Ready) Unset Here) (TakeMessage 0) ≡ Err RegisterKind
unfolding of_role state method_at role_in descends_in
take_over_an_owner = refl

-- the message is owned, and no more to be taken
take_of_the_message : rule (of_role Service) 0 0 (state Null Word Here) (TakeMessage 0) ≡ Ok ((1, state (Own Message Ready) Word Gone) ∷ [])
unfolding of_role state method_at role_in descends_in
take_of_the_message = refl

-- ---- reply

reply_of_an_object : rule (of_role Service) 0 0 (state (Own (Object 0) Ready) Word Gone) (Reply 0 1) ≡ Err RegisterKind
unfolding of_role state descends_in
reply_of_an_object = refl

reply_of_perhaps_a_message : rule (of_role Do) 0 0 (state (Maybe Message Ready) Word Here) (Reply 0 1) ≡ Err RegisterKind
unfolding of_role state descends_in
reply_of_perhaps_a_message = refl

reply_with_no_word : rule (of_role Do) 0 0 (state (Own Message Ready) Null Here) (Reply 0 1) ≡ Err RegisterKind
unfolding of_role state descends_in
reply_with_no_word = refl

-- any method that has a message replies
reply_with_a_word : rule (of_role Do) 0 0 (state (Own Message Ready) Word Here) (Reply 0 1) ≡ Ok ((1, state Null Word Here) ∷ [])
unfolding of_role state descends_in
reply_with_a_word = refl
