-- What a method works on has all that the method's class declares: by what is said of the family of its class.
use Rattle.std.proofs.lemmas.Bool.Decides.{nat_tests}
use Rattle.std.proofs.Common.{Option, Some, arith, refl, subst, true, ℕ, ◌≡◌}
use Rattle.std.specs.Prelude.{is_some}
use Rattle.aom_image.specs.Image.{Image}
use Rattle.aom_image.specs.Views.{method_class, method_role}
use Rattle.aom_image.specs.declared.method.Role.{Role}
use Rattle.aom_image.specs.declared.method.Thing.{Thing}
use Rattle.aom_image.specs.declared.method.Thing.TheVariants.{Object as An_object_of}
use Rattle.aom_roles.specs.Classes.{sessions_at, sessions_in}
use Rattle.aom_roles.specs.Families.{descends}
use Rattle.aom_safety.proofs.RolesLemmas.{itself}
use Rattle.aom_typing_rules.specs.Calls.{is_destruct}
use Rattle.aom_roles.specs.Things.{Holder, Member, field_thing, holder_by, holder_of, is_subtype}
use Rattle.aom_roles.specs.Shapes.{kind_of}
use Rattle.aom_safety.specs.Laws.{IsFamily}
use Rattle.aom_semantics.specs.Servers.{session_class}
use Rattle.aom_semantics.specs.State.{Receiver, receiver_holder, receiver_view, thing_holder}
use Rattle.aom_safety.specs.WellTyped.{CountsAs, ReceiverConforms, IsOfFamily}

pub receiver_conforms_itself : (p : Image) (h : Holder) → ReceiverConforms p h h
receiver_conforms_itself p h = record { fields = λ f t e. e; words = omega arith; member = λ d e. (d, e, itself p d, refl); works = λ c e. (c, e) }

pub receiver_conforms_same : (p : Image) (h k : Holder) → h ≡ k → ReceiverConforms p h k
receiver_conforms_same p h k e = subst (λ x. ReceiverConforms p h x) e (receiver_conforms_itself p h)

pub receiver_conforms_family : (p : Image) → IsFamily p → (c d : ℕ) → descends p c d ≡ true → ReceiverConforms p (Member c) (Member d)
receiver_conforms_family p family c d h = search (arith, nat_tests, family.inherits c d, family.words c d h, family.kinds c)

-- an object of a class has what a method declares that is of the class or of one above it
pub receiver_conforms_role : (p : Image) → IsFamily p → (x : Thing) (c m : ℕ) →
    x ≡ An_object_of c → (of : IsOfFamily p c m) → holder_by (method_role p m) (Some of.class) ≡ Member of.class → ReceiverConforms p (thing_holder x) (holder_of p m)
receiver_conforms_role p family x c m thing of member = grind (arith, nat_tests, receiver_conforms_family p family c of.class of.above)

-- what a place owns counts as its own class
pub receiver_conforms_counts : (p : Image) (h : Receiver) (k : Holder) → ReceiverConforms p (receiver_holder h) k → CountsAs p (receiver_holder h) (receiver_view h) k
receiver_conforms_counts p x k receiver_conforms = grind (arith, nat_tests, itself p)

pub counts_same : (p : Image) (h : Receiver) (k : Holder) → receiver_holder h ≡ k → CountsAs p (receiver_holder h) (receiver_view h) k
counts_same p h k e = receiver_conforms_counts p h k (receiver_conforms_same p (receiver_holder h) k e)

-- under a destructor of the line an object counts as the destructor's class
pub counts_line : (p : Image) (x : Thing) (c m : ℕ) →
    x ≡ An_object_of c → (of : IsOfFamily p c m) → holder_of p m ≡ Member of.class → CountsAs p (thing_holder x) (method_class p m) (holder_of p m)
counts_line p x c m thing of works = search (arith, nat_tests, itself p of.class)

-- what destructs works on an object
pub destructs_member : (r : Option Role) (d : ℕ) → is_destruct r ≡ true → holder_by r (Some d) ≡ Member d
destructs_member r d e = grind arith

-- a field that the method's class declares is the same field
pub receiver_conforms_field : (p : Image) (h k : Holder) (f : ℕ) → ReceiverConforms p h k → is_some (field_thing p k f) ≡ true → field_thing p h f ≡ field_thing p k f
receiver_conforms_field p h k f receiver_conforms some = grind (arith, nat_tests)

-- nothing else stands for a session
pub stands_session : (p : Image) → IsFamily p → (c session : ℕ) → sessions_at p c ≡ Some session → (x : Thing) → is_subtype p x (An_object_of session) ≡ true →
    x ≡ An_object_of session
stands_session p family c session at x stands = grind arith

pub stands_session_of : (p : Image) → IsFamily p → (t : Thing) (session : ℕ) → session_class p t ≡ Some session → (x : Thing) →
    is_subtype p x (An_object_of session) ≡ true → x ≡ An_object_of session
unfolding kind_of sessions_in
stands_session_of p family x session e y stands = grind (arith, nat_tests, stands_session p family)
