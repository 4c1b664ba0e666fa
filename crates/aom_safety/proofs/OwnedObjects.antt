-- Seats: which places are none, and that those who sit stay where cells change elsewhere.
use Rattle.std.proofs.Common.{arith, List, Option, Some, None, [], subst, true, false, ◌∷◌, ◌≡◌}
use Rattle.std.specs.Prelude.{is_some}
use Rattle.aom_semantics.specs.Places.{Cell, Elsewhere, Entry, Field, Going, Object, Place, Register, held, named, requested, same_place}
use Rattle.aom_semantics.specs.State.{OwnedObject}
use Rattle.aom_safety.specs.WellTyped.{IsOwnedChain, IsNoFieldOf, NoOwnedObjectAt, NoOwnedObjectIn, OwnedFirst, OwnedWithin}

-- what holds a method's cell is below the method
abbrev pub NoFieldHere : Place → Place → Type 0
NoFieldHere (Field n f) from = IsNoFieldOf n from
NoFieldHere (Elsewhere w) from = same_place (Elsewhere w) from ≡ false
NoFieldHere _ from = Unit {0}

-- no seat is that place, or in the fields of its cell
abbrev pub NoOwnedObjectHere : Place → List OwnedObject → Type 0
NoOwnedObjectHere (Field n f) xs = NoOwnedObjectIn n xs
NoOwnedObjectHere (Elsewhere w) xs = NoOwnedObjectAt (Elsewhere w) xs
NoOwnedObjectHere _ xs = Unit {0}

is_elsewhere : (q r : Place) (xs : List OwnedObject) → OwnedWithin r xs → NoFieldHere q r → same_place q r ≡ false
is_elsewhere q r xs h a = grind arith

pub no_owned_object : (cs : List Cell) (q : Place) (xs : List OwnedObject) → NoOwnedObjectHere q xs → IsOwnedChain cs xs → NoOwnedObjectAt q xs
no_owned_object cs q [] h s = tt
no_owned_object cs (Register f i) (x ∷ xs) h s = (is_elsewhere (Register f i) x.place xs s.0.2 tt, no_owned_object cs (Register f i) xs tt s.1)
no_owned_object cs (Entry k) (x ∷ xs) h s = (is_elsewhere (Entry k) x.place xs s.0.2 tt, no_owned_object cs (Entry k) xs tt s.1)
no_owned_object cs (Field n f) (x ∷ xs) h s = (is_elsewhere (Field n f) x.place xs s.0.2 h.0, no_owned_object cs (Field n f) xs h.1 s.1)
no_owned_object cs (Elsewhere w) (x ∷ xs) h s = h
no_owned_object cs (Going k) (x ∷ xs) h s = (is_elsewhere (Going k) x.place xs s.0.2 tt, no_owned_object cs (Going k) xs tt s.1)

-- where all other places and their objects are as they were
pub sits_kept : (cs cs' : List Cell) (a b : Place) (xs : List OwnedObject) → ((r : Place) (o : Object) →
    same_place a r ≡ false → same_place b r ≡ false → held cs r ≡ Some o → named cs o.name ≡ Some o → (held cs' r ≡ Some o) × (named cs' o.name ≡ Some o)) →
    NoOwnedObjectHere a xs → NoOwnedObjectHere b xs → IsOwnedChain cs xs → IsOwnedChain cs' xs
sits_kept cs cs' a b xs stays na nb s = go xs (no_owned_object cs a xs na s) (no_owned_object cs b xs nb s) s
  where
    go : (xs : List OwnedObject) → NoOwnedObjectAt a xs → NoOwnedObjectAt b xs → IsOwnedChain cs xs → IsOwnedChain cs' xs
    go [] na nb s = tt
    go (x ∷ xs) na nb s =
        let h = stays x.place x.object na.0 nb.0 s.0.0 s.0.1 in
        ((h.0, h.1, s.0.2, s.0.3), go xs na.1 nb.1 s.1)

-- and what is enlisted stays so
pub first_kept : (cs cs' : List Cell) (a : Place) (d : Option OwnedObject) (xs : List OwnedObject) → ((r : Place) (o : Object) →
    same_place a r ≡ false → held cs r ≡ Some o → named cs o.name ≡ Some o → is_some (requested cs o.name) ≡ true → is_some (requested cs' o.name) ≡ true) →
    NoOwnedObjectHere a xs → IsOwnedChain cs xs → OwnedFirst cs d xs → OwnedFirst cs' d xs
first_kept cs cs' a None xs stays na s f = f
first_kept cs cs' a (Some x) xs stays na s f =
    let apart : NoOwnedObjectAt a (x ∷ f.1) = subst (λ ys. NoOwnedObjectAt a ys) f.2 (no_owned_object cs a xs na s) in
    let is_owned_chain : IsOwnedChain cs (x ∷ f.1) = subst (λ ys. IsOwnedChain cs ys) f.2 s in
    (stays x.place x.object apart.0 is_owned_chain.0.0 is_owned_chain.0.1 f.0, f.1, f.2)
