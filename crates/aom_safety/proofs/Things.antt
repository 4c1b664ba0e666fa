-- What stands for an object, for a message and for a server.
use Rattle.std.proofs.Common.{Some, ap, arith, false, sym, true, ℕ, ◌∙◌, ◌≡◌}
use Rattle.std.specs.Prelude.{is_some}
use Rattle.aom_safety.proofs.ImageLemmas.{some_given}
use Rattle.aom_image.specs.Image.{Image}
use Rattle.aom_image.specs.declared.method.Thing.{Thing}
use Rattle.aom_image.specs.declared.method.Thing.TheVariants.{Message, Object as An_object_of}
use Rattle.aom_roles.specs.Things.{is_subtype, is_object}
use Rattle.aom_semantics.specs.Servers.{is_server, session_class}
use Rattle.aom_roles.specs.Shapes.{kind_of}
use Rattle.aom_roles.specs.Classes.{sessions_at, sessions_in}

-- what stands for an object is one, and what stands for a message is a message
pub stands_object : (p : Image) (x y : Thing) → is_subtype p x y ≡ true → is_object x ≡ is_object y
stands_object p x y a = grind arith

pub stands_message : (p : Image) (x : Thing) → is_subtype p x Message ≡ true → x ≡ Message
stands_message p x a = grind arith

-- a message is no server
pub message_plain : (p : Image) (x : Thing) → x ≡ Message → is_server p x ≡ false
unfolding kind_of sessions_in
message_plain p x e = ap (λ y. is_server p y) e

-- a server is an object of a class with sessions
server_class : (p : Image) (x : Thing) → is_server p x ≡ true → (c : ℕ) × (x ≡ An_object_of c)
unfolding kind_of sessions_in
server_class p x e = grind arith

pub serving_class : (p : Image) (x : Thing) → is_server p x ≡ true → (c k : ℕ) × (x ≡ An_object_of c) × (sessions_at p c ≡ Some k)
unfolding kind_of sessions_in
serving_class p x e =
    let class = server_class p x e in
    let sessions : (k : ℕ) × (session_class p x ≡ Some k) = some_given (λ o. is_some o ≡ true) (session_class p x) e (λ none. cc) (λ k is _. (k, is)) in
    (class.0, sessions.0, class.1, ap (λ y. session_class p y) (sym class.1) ∙ sessions.1)
