-- How what is known of requests changes with the layers, and how it goes on to hold.
use Rattle.std.proofs.lemmas.Bool.Decides.{nat_tests}
use Rattle.std.proofs.Common.{arith, Bool, IsTrue, List, None, Option, Some, [], ap, false, refl, subst, sym, true, ℕ, ◌==◌, ◌∙◌, ◌∷◌, ◌≡◌}
use Rattle.std.proofs.lemmas.Bool.{eqb-true}
use Rattle.std.specs.Prelude.{◌||◌}
use Rattle.aom_image.specs.Image.{Image}
use Rattle.aom_image.specs.Views.{has, method_role}
use Rattle.aom_image.specs.declared.class.ClassKind.{ClassKind}
use Rattle.aom_image.specs.declared.class.ClassKind.TheVariants.{Active as An_active, Server as A_server}
use Rattle.aom_roles.specs.States.{cancel_done, first_of, idle, server_states, states_of}
use Rattle.aom_typing_rules.specs.Requests.{unissued}
use Rattle.aom_safety.proofs.AbstractStateLemmas.{has_along, has_itself}
use Rattle.aom_abstract_state.specs.AbstractState.{AbstractState}
use Rattle.aom_safety.proofs.SemanticsLemmas.{named_moved, requested_moved}
use Rattle.aom_safety.specs.Claims.{Dying, Layer, Mark, Method}
use Rattle.aom_semantics.specs.Places.{Cell, Object, Place, Request, moved, named, requested}
use Rattle.aom_semantics.specs.Requests.{cancelled, is_unanswered, on_request, pending, status_of}
use Rattle.std.specs.Ordering.{int_eq}
use Rattle.aom_safety.specs.Requests.{AllConformTo, Joins, Known, ConformsTo, Unworked, is_free, token_matches_request, is_timed, known_at}
use Rattle.aom_safety.specs.Requests.{resting_in, rests_in, state_of, states_claim, thing_kind, works_at}
use Rattle.aom_semantics.specs.State.{Frame, Inside}
use Rattle.aom_safety.specs.WellTyped.{ReceiverIsHeld}
use Rattle.aom_image.specs.declared.method.Gives.{Gives}
use Rattle.aom_roles.specs.Roles.{is_cancel}

-- a larger set
pub conforms_to_less : (k : Option ClassKind) (a b : ℕ) (c : Bool) (r : Option Request) →
    IsTrue (has a b) → ConformsTo k (record { states = b; cancelled = c }) r → ConformsTo k (record { states = a; cancelled = c }) r
conforms_to_less x a b' c r h s = grind (arith, nat_tests, has_along a b')

-- what is not issued, nor being cancelled, may rest
pub conforms_to_rests : (k : Option ClassKind) (states : ℕ) (r : Option Request) → unissued states ≡ true → ConformsTo k (resting_in states) r →
    ConformsTo k (resting_in (states_of k)) r
unfolding states_of
conforms_to_rests x states r u s = grind arith

pub rests_unissued : (k : Option ClassKind) → unissued (states_of k) ≡ true
unfolding states_of
rests_unissued x = grind arith

-- what is not enlisted may be under construction, and may rest
pub conforms_to_new : (k : Option ClassKind) → ConformsTo k (resting_in (states_of k)) None
unfolding states_of
conforms_to_new x = grind arith

begins_new : (k : Option ClassKind) → ConformsTo k (resting_in (first_of k)) None
unfolding first_of
begins_new x = grind arith

pub conforms_to_first : (k : Option ClassKind) (r : Option Request) → r ≡ None → ConformsTo k (resting_in (first_of k)) r
conforms_to_first k r e = subst (λ r. ConformsTo k (resting_in (first_of k)) r) (sym e) (begins_new k)

-- a state that says no more
pub claims_less : (p : Image) (o : Object) (fr : Frame) (a b : AbstractState) (ls : List Layer) (r : Option Request) → IsTrue (has a.states b.states) →
    ConformsTo (thing_kind p o.thing) (states_claim p o (Method fr b ∷ ls)) r → ConformsTo (thing_kind p o.thing) (states_claim p o (Method fr a ∷ ls)) r
claims_less p o fr a b ls r h = grind (arith, nat_tests, conforms_to_less)

-- an object rests where no layer works on it
pub unworked_rests : (p : Image) (o : Object) (ls : List Layer) → Unworked o.name ls → states_claim p o ls ≡ resting_in (rests_in p o)
unworked_rests p o [] u = refl
unworked_rests p o (Method fr sh ∷ ls) u = grind (arith, nat_tests, unworked_rests p o ls u.1)
unworked_rests p o (Dying x ∷ ls) u = grind (arith, nat_tests, unworked_rests p o ls u.1)
unworked_rests p o (_ ∷ ls) u = unworked_rests p o ls u

-- moves of ownership count for no request
pub all_moved : (p : Image) (cs : List Cell) (a b : Place) (ls : List Layer) → AllConformTo p cs ls → AllConformTo p (moved a b cs) ls
all_moved p cs a b ls s o lives = grind (arith, nat_tests, requested_moved cs a b o.name, named_moved cs a b o.name)

-- one name, one object
pub same_object : (cs : List Cell) (o x : Object) → named cs o.name ≡ Some o → named cs x.name ≡ Some x → (o.name == x.name) ≡ true → o ≡ x
same_object cs o x a b e = let same : Some o ≡ Some x = sym a ∙ ap (λ n. named cs n) (eqb-true o.name x.name e) ∙ b in cc

-- what rests suits where no layer works on it
pub rests_there : (p : Image) (o : Object) (ls : List Layer) (r : Option Request) → Unworked o.name ls →
    ConformsTo (thing_kind p o.thing) (resting_in (rests_in p o)) r → ConformsTo (thing_kind p o.thing) (states_claim p o ls) r
rests_there p o ls r u s = subst (λ k. ConformsTo (thing_kind p o.thing) k r) (sym (unworked_rests p o ls u)) s

-- a method that does not cancel leaves what is known below it
pub known_plain : (p : Image) (fr : Frame) (states : ℕ) (below : Known) →
    is_cancel (method_role p fr.method) ≡ false → known_at p fr states below ≡ record { states = states; cancelled = below.cancelled }
known_plain p fr states below e = ap (λ (b : Bool). record { states = states; cancelled = b || below.cancelled }) e

-- nor is an object being cancelled on which none works below it
pub known_resting : (p : Image) (o : Object) (fr : Frame) (states : ℕ) (ls : List Layer) → is_cancel (method_role p fr.method) ≡ false → Unworked o.name ls →
    known_at p fr states (states_claim p o ls) ≡ resting_in states
known_resting p o fr states ls e u = search (arith, nat_tests, known_plain p fr states, unworked_rests p o ls u)

-- a method that cancels ends with its request completed
pub completed : (k : Option ClassKind) (n : Known) (r : Option Request) → IsTrue (has cancel_done n.states) → ConformsTo k n r → int_eq (status_of r) pending ≡ false
completed (Some (An_active v)) n r h s = go r (has_along cancel_done n.states (state_of r) h s.0) s.2
  where
    go : (r : Option Request) → IsTrue (has cancel_done (state_of r)) → is_unanswered r ≡ false → int_eq (status_of r) pending ≡ false
    go r h u = grind arith
completed (Some (A_server m x)) n r h s = go r s.1 (has_along cancel_done n.states (state_of r) h s.0)
  where
    go : (r : Option Request) → IsTrue (has server_states (state_of r)) → IsTrue (has cancel_done (state_of r)) → int_eq (status_of r) pending ≡ false
    go None g h = refl
    go (Some q) g h = absurd (grind arith)
completed _ n r h s = ap (λ r. int_eq (status_of r) pending) s

-- and leaves its object idle
pub cancel_ends : (k : Option ClassKind) (n : Known) (r : Option Request) → IsTrue (has cancel_done n.states) → ConformsTo k n r →
    ConformsTo k (resting_in idle) (on_request cancelled r)
cancel_ends (Some (An_active v)) n r h s = go r (has_along cancel_done n.states (state_of r) h s.0) s.2 s.3 s.4
  where
    go : (r : Option Request) → IsTrue (has cancel_done (state_of r)) →
        is_unanswered r ≡ false → is_timed v r ≡ true → token_matches_request v r ≡ true → ConformsTo (Some (An_active v)) (resting_in idle) (on_request cancelled r)
    go r h u t q = grind arith
cancel_ends (Some (A_server m x)) n r h s = go r (has_along cancel_done n.states (state_of r) h s.0) s.2
  where
    go : (r : Option Request) → IsTrue (has cancel_done (state_of r)) → is_free r ≡ true → ConformsTo (Some (A_server m x)) (resting_in idle) (on_request cancelled r)
    go r h f = grind arith
cancel_ends _ n r h s = ap (λ r. on_request cancelled r) s

-- the object that a method worked on, by what stands below it; one that cancelled has left it idle
pub rejoins_caller : (p : Image) (o : Object) (fr : Frame) (sh : AbstractState) (states : ℕ) (ls : List Layer) (ends : ℕ) (r : Option Request) →
    Joins p o (Method fr sh ∷ ls) → (works_at o.name fr.receiver ≡ true → IsTrue (has sh.states ends)) → IsTrue (has ends states) → unissued states ≡ true →
    ConformsTo (thing_kind p o.thing) (record { states = states; cancelled = (states_claim p o (Method fr sh ∷ ls)).cancelled }) r →
    ConformsTo (thing_kind p o.thing) (states_claim p o (Method fr sh ∷ ls)) r
rejoins_caller p o fr sh states ls ends r x well within u s = grind (arith, nat_tests, conforms_to_less, has_along, rests_there, conforms_to_rests, unworked_rests)

pub rejoins_trap : (p : Image) (o : Object) (gv : Gives) (fr : Frame) (sh : AbstractState) (ls : List Layer) (states : ℕ) (r : Option Request) →
    Joins p o (Mark gv ∷ Method fr sh ∷ ls) → unissued states ≡ true → (states_claim p o (Method fr sh ∷ ls)).cancelled ≡ false →
    ConformsTo (thing_kind p o.thing) (resting_in states) r → ConformsTo (thing_kind p o.thing) (states_claim p o (Method fr sh ∷ ls)) r
rejoins_trap p o gv fr sh ls states r x u none s =
    grind (arith, nat_tests, rejoins_caller p o fr sh, has_itself, rests_unissued, conforms_to_rests, rests_there p o (Method fr sh ∷ ls) r)

-- a method is over: all but the object that it worked on is as it was
pub all_returned : (p : Image) (cs cs' : List Cell) (fr : Frame) (sh : AbstractState) (below : List Layer) → AllConformTo p cs (Method fr sh ∷ below) →
    ReceiverIsHeld p cs below fr.receiver → ((n : ℕ) → named cs' n ≡ named cs n) → ((n : ℕ) → works_at n fr.receiver ≡ false → requested cs' n ≡ requested cs n) →
    ((o : Object) (from : Place) → fr.receiver ≡ Inside o from → ConformsTo (thing_kind p o.thing) (known_at p fr sh.states (states_claim p o below))
    (requested cs o.name) → ConformsTo (thing_kind p o.thing) (states_claim p o below) (requested cs' o.name)) → AllConformTo p cs' below
all_returned p cs cs' fr sh below s receiver_held same others back x lives' = grind (arith, nat_tests, same_object cs)
