-- Of the message that is served a method claims nothing where it does not serve: by its role.
use Rattle.std.proofs.lemmas.Bool.Decides.{nat_tests}
use Rattle.std.proofs.Common.{List, Bool, cond, false, true, ℕ, ◌≡◌, arith}
use Rattle.aom_image.specs.Image.{Image}
use Rattle.aom_abstract_state.specs.AbstractState.{AbstractState}
use Rattle.aom_abstract_state.specs.declared.kind.Kind.{Kind}
use Rattle.aom_abstract_state.specs.declared.kind.Kind.TheVariants.{Null, Own}
use Rattle.aom_abstract_state.specs.Kinds.{is_ready_kind}
use Rattle.aom_abstract_state.specs.declared.kind.InitState.TheVariants.{Ready}
use Rattle.aom_image.specs.declared.method.Thing.TheVariants.{Message}
use Rattle.aom_safety.specs.Claims.{Layer, claim, delivered, serves}
use Rattle.aom_safety.specs.WellTyped.{IsServed}
use Rattle.aom_safety.specs.Laws.{IsCalled}
use Rattle.aom_semantics.specs.Places.{Elsewhere, In_service, Place, Session}

-- what is called does not serve
pub called_plain : (p : Image) (m : ℕ) → IsCalled p m → serves p m ≡ false
called_plain p m c = grind (arith, nat_tests)

pub plain_claim : (b : Bool) (sh : AbstractState) (below : Kind) → b ≡ false → cond b (delivered sh.message_state) below ≡ below
plain_claim x sh below e = grind arith

-- the layers below a method that serves claim the message
pub served_claim : (p : Image) (d : Place → Kind) (ls : List Layer) → IsServed ls → claim p d ls (Elsewhere In_service) ≡ Own Message Ready
served_claim p d x s = grind arith

-- with the message that is served, where one is
abbrev pub with_message : Bool → (Place → Kind) → Place → Kind
with_message served d (Elsewhere (Session s c)) = d (Elsewhere (Session s c))
with_message served d (Elsewhere In_service) = cond served (Own Message Ready) (d (Elsewhere In_service))
with_message served d r = d r

pub with_message_ready : (served : Bool) (q : Place) → is_ready_kind (with_message served (λ r. Null) q) ≡ true
with_message_ready served x = grind arith
