-- The order between lists of states is reflexive and transitive, as that of states is.
use Rattle.std.proofs.Common.{ℕ}
use Rattle.aom_abstract_state.specs.Order.{IsImpliedBy}
use Rattle.aom_abstract_state.specs.AbstractState.{AbstractState}
use Rattle.aom_verify.proofs.AbstractStateLemmas.{reflexive, transitive}
use Rattle.aom_static_bounds.specs.Shapes.{Shapes, Meets, IsBelow}

pub meets_more : (s : Shapes) (to : ℕ) (a b : AbstractState) → Meets s to a → IsImpliedBy a b → Meets s to b
meets_more s to a b h k = record { next = h.next; there = h.there; implied = transitive h.next a b h.implied k }

pub meets_below : (t s : Shapes) (to : ℕ) (a : AbstractState) → IsBelow t s → Meets s to a → Meets t to a
meets_below t s to a h k = meets_more t to k.next a (h.each to k.next k.there) k.implied

pub below_self : (s : Shapes) → IsBelow s s
below_self s = record { each = λ pc sh e. record { next = sh; there = e; implied = reflexive sh } }

pub below_along : (r t s : Shapes) → IsBelow r t → IsBelow t s → IsBelow r s
below_along r t s h k = record { each = λ pc sh e. meets_below r t pc sh h (k.each pc sh e) }
