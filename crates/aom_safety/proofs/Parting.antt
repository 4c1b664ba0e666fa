-- What a server's dispatch ends with: the entry is served, and it goes on as the dispatch of an object.
use Rattle.std.proofs.lemmas.Bool.Decides.{nat_tests}
use Rattle.std.proofs.Common.{arith, Bool, List, Some, [], ap, false, refl, true, ℕ, ℤ, ◌==◌, ◌∙◌, ◌∷◌, ◌≡◌}
use Rattle.std.proofs.lemmas.Bool.{eqb-true}
use Rattle.std.specs.Prelude.{filter}
use Rattle.aom_image.specs.Image.{Image}
use Rattle.aom_image.specs.declared.method.Thing.TheVariants.{Message}
use Rattle.aom_typing_rules.specs.Typing.{Typing}
use Rattle.aom_safety.proofs.Claimed.{fits_age}
use Rattle.aom_safety.proofs.Dropping.{declared_dropped, dropped, fits_dropped, held_dropped, is_sent}
use Rattle.aom_safety.proofs.Dropping.{place_dropped, stack_dropped, conforms_to_dropped, tidy_dropped}
use Rattle.aom_safety.proofs.SemanticsLemmas.{same_place-true}
use Rattle.aom_safety.proofs.Services.{held_served, named_served, requested_served, service_here, service_there, sits_lives, tidy_served}
use Rattle.aom_safety.proofs.Things.{stands_message}
use Rattle.aom_safety.specs.Claims.{Dispatching, claim, declared}
use Rattle.aom_semantics.specs.Moves.{dispatch_ends, needs_end, stage_ends}
use Rattle.aom_semantics.specs.Places.{Cell, Elsewhere, In_service, Object, Place, Service, Session, held, same_place, seen, service_of, set_service, without}
use Rattle.aom_semantics.specs.Servers.{is_among, is_other, parted}
use Rattle.aom_semantics.specs.State.{Accept_left, Accepted, Dispatched, Of_object, Of_server, Disconnects, OwnedObject, Service_left, Stage, State, guarded}
use Rattle.aom_safety.specs.WellTyped.{Now, IsOwnedChain, Fits, Good, PreservesTyping, WellTyped}

-- a client that has parted is not among them, and all others are
pub among_parted : (c : ℕ) (ss : List ℕ) → is_among c (filter (is_other c) ss) ≡ false
among_parted c [] = refl
among_parted c (d ∷ ss) = grind (arith, nat_tests, among_parted c ss)

pub among_others : (k c : ℕ) (ss : List ℕ) → (c == k) ≡ false → is_among k (filter (is_other c) ss) ≡ is_among k ss
among_others k c [] other = refl
among_others k c (d ∷ ss) other = grind (arith, nat_tests, among_others k c ss other, eqb-true d c)

-- stages at which nothing is claimed
abbrev claims_none : Stage → Bool
claims_none Accepted = true
claims_none (Accept_left code) = true
claims_none _ = false

module _ (p : Image) (t : Typing) (s : State) (x : OwnedObject) (client : ℕ) (owned_chain : List OwnedObject) where
  -- with such cells the dispatch goes on
  served_well : (u : State) → u.tasks ≡ Dispatched (Of_object x) ∷ [] → u.items ≡ [] → Good p t u.cells (Dispatching (Of_object x) owned_chain ∷ []) → WellTyped p t u
  served_well u tasks items good = search (arith, nat_tests)

  -- the cells are as they were
  plain_good : (stage : Stage) → claims_none stage ≡ true → Good p t s.cells (Dispatching (Of_server x client stage) owned_chain ∷ []) →
      Good p t s.cells (Dispatching (Of_object x) owned_chain ∷ [])
  plain_good stage plain good = search (arith, nat_tests)

  -- the message of a service that was left is completed
  module _ (code : ℤ) (good : Good p t s.cells (Dispatching (Of_server x client (Service_left code)) owned_chain ∷ [])) where
    abbrev goes : Place → Bool
    goes r = same_place r (Elsewhere In_service)

    goes_sent : (r : Place) → same_place r (Elsewhere In_service) ≡ true → is_sent r ≡ true
    goes_sent r e = ap is_sent (same_place-true r (Elsewhere In_service) e)

    goes_message : (r : Place) (y : Object) → same_place r (Elsewhere In_service) ≡ true → held s.cells r ≡ Some y → y.thing ≡ Message
    goes_message r y e there = grind (arith, nat_tests, same_place-true r (Elsewhere In_service) e, stands_message p y.thing)

    abbrev left : List Cell
    left = dropped goes s.cells

    left_good : Good p t left (Dispatching (Of_object x) owned_chain ∷ [])
    left_good = let stack =
        stack_dropped goes p s.cells good.no_duplicates goes_message goes_sent t (Dispatching (Of_server x client (Service_left code)) owned_chain ∷ []) Now good.stack in
        record {
          stack = (tt, refl, stack.2, stack.3, tt);
          fits = fits;
          conforms_to = conforms_to_dropped goes p s.cells good.no_duplicates goes_message (Dispatching (Of_object x) owned_chain ∷ []) good.conforms_to;
          no_duplicates = tidy_dropped goes s.cells good.no_duplicates;
        }
      where
        same : (r : Place) → same_place r (Elsewhere In_service) ≡ false → Fits p (seen s.cells) (held s.cells r) (declared p s.cells r) →
            Fits p (seen left) (held left r) (declared p left r)
        same r e f =
            rw (declared_dropped goes p s.cells good.no_duplicates goes_message r) (fits_dropped goes p s.cells good.no_duplicates goes_message r (declared p s.cells r) e f)

        fits : (r : Place) → Fits p (seen left) (held left r) (claim p (declared p left) (Dispatching (Of_object x) owned_chain ∷ []) r)
        fits r = grind (arith, nat_tests, held_dropped, same r)

    completed_good : Good p t (without (Elsewhere In_service) s.cells) (Dispatching (Of_object x) owned_chain ∷ [])
    completed_good = grind (arith, nat_tests, place_dropped (Elsewhere In_service) s.cells, left_good)

  -- after a close the client has no session with it
  module _ (good : Good p t s.cells (Dispatching (Of_server x client Disconnects) owned_chain ∷ [])) where
    abbrev n : ℕ
    n = x.object.name

    abbrev v : Service
    v = parted client (service_of s.cells n)

    abbrev cs : List Cell
    cs = set_service n v s.cells

    service_now : service_of cs n ≡ v
    service_now = service_here s.cells n v x.object (sits_lives s.cells owned_chain x good.stack.2 good.stack.3)

    declared_then : (r : Place) → declared p cs r ≡ claim p (declared p s.cells) (Dispatching (Of_server x client Disconnects) owned_chain ∷ []) r
    declared_then (Elsewhere (Session m k)) =
        grind (arith, nat_tests, named_served s.cells, service_now, eqb-true client k, among_parted client, among_others k client, service_there s.cells)
    declared_then y = grind (arith, nat_tests, named_served s.cells, eqb-true, service_now, service_there s.cells)

    sits_then : (xs : List OwnedObject) → IsOwnedChain s.cells xs → IsOwnedChain cs xs
    sits_then [] h = tt
    sits_then (y ∷ ys) h = ((held_served s.cells n v y.place ∙ h.0.0, named_served s.cells n v y.object.name ∙ h.0.1, h.0.2, h.0.3), sits_then ys h.1)

    parted_good : Good p t cs (Dispatching (Of_object x) owned_chain ∷ [])
    parted_good = record {
      stack = grind (arith, nat_tests, sits_then, requested_served);
      fits = grind (arith, nat_tests, declared_then, held_served s.cells, fits_age p, requested_served s.cells);
      conforms_to = grind (arith, nat_tests, requested_served s.cells, named_served s.cells);
      no_duplicates = tidy_served s.cells n v good.no_duplicates;
    }

  -- each stage
  pub stage_keeps : (stage : Stage) → s.items ≡ [] → Good p t s.cells (Dispatching (Of_server x client stage) owned_chain ∷ []) →
      PreservesTyping p t (guarded (needs_end (Of_server x client stage) s.cells) (dispatch_ends p (Of_server x client stage) s))
  stage_keeps Accepted items good = served_well (stage_ends x client Accepted s) refl items (plain_good Accepted refl good)
  stage_keeps (Accept_left code) items good = served_well (stage_ends x client (Accept_left code) s) refl items (plain_good (Accept_left code) refl good)
  stage_keeps (Service_left code) items good = grind (arith, nat_tests, served_well, completed_good code good)
  stage_keeps Disconnects items good = served_well (stage_ends x client Disconnects s) refl items (parted_good good)
  stage_keeps _ items good = absurd (assumption tt)
