-- How many cells stand, after each change of the cells.
use Rattle.std.proofs.lemmas.Bool.Decides.{nat_tests}
use Rattle.std.proofs.Common.{◌≡◌, ◌≤◌, ◌∙◌, ℕ, ℤ, suc, Bool, true, false, cond, List, [], ◌∷◌, Option, Some, refl, ap, arith}
use Rattle.aom_image.specs.declared.method.Thing.{Thing}
use Rattle.aom_roles.specs.Things.{is_object}
use Rattle.aom_semantics.specs.Requests.{request_updated}
use Rattle.aom_semantics.specs.Places.{Cell, Elsewhere, Going, Object, Place, Register, Request, Service, Session, held, moved}
use Rattle.aom_semantics.specs.Places.{service_of, set_request, set_service, set_session, set_word_field, with_new, without}
use Rattle.aom_semantics.specs.State.{Accepts, Dispatch, Receiver, Item, Of_server, field_place}
use Rattle.aom_semantics.specs.Calls.{accepted_cells, below_top}
use Rattle.aom_semantics.specs.Clients.{each_slot_released}
use Rattle.aom_semantics.specs.Servers.{all_slot_released, opened, reserved, without_queue}
use Rattle.aom_semantics.specs.Tokens.{all_redeemed, redeemed_by}
use Rattle.aom_semantics.specs.Words.{stored}
use Rattle.aom_termination.proofs.SemanticsLemmas.{same_place-true}
use Rattle.aom_termination.specs.Ranks.{is_going, standing, operations}
use Rattle.aom_semantics.specs.Natives.{session_updated}

-- what moves from a place of a cell that stood
pub standing_moved : (from to : Place) (cs : List Cell) → is_going from ≡ false → standing (moved from to cs) ≤ standing cs
standing_moved from to [] e = omega arith
standing_moved from to (c ∷ cs) e = grind (arith, nat_tests, standing_moved from to cs e, same_place-true c.owner from)

pub standing_passes : (d i e j : ℕ) (cs : List Cell) → standing (moved (Register d i) (Register e j) cs) ≤ standing cs
standing_passes d i e j cs = standing_moved (Register d i) (Register e j) cs refl

-- what is there begins to go
pub standing_goes : (from : Place) (k : ℕ) (o : Object) (cs : List Cell) →
    is_going from ≡ false → is_object o.thing ≡ true → held cs from ≡ Some o → suc (standing (moved from (Going k) cs)) ≤ standing cs
standing_goes from k o [] e object there = cc
standing_goes from k o (c ∷ cs) e object there = grind (arith, standing_moved from (Going k) cs e, standing_goes from k o cs e object, same_place-true c.owner from)

pub standing_without : (from : Place) (cs : List Cell) → standing (without from cs) ≤ standing cs
standing_without from [] = omega arith
standing_without from (c ∷ cs) = grind (arith, standing_without from cs)

pub standing_new : (name : ℕ) (t : Thing) (words : List ℤ) (owner : Place) (cs : List Cell) → standing (with_new name t words owner cs) ≤ suc (standing cs)
standing_new name t words owner cs = grind arith

written_same : (n w : ℕ) (v : ℤ) (cs : List Cell) → standing (set_word_field n w v cs) ≡ standing cs
written_same n w v [] = refl
written_same n w v (c ∷ cs) = ap (λ x. cond (is_object c.object.thing) (cond (is_going c.owner) x (suc x)) x) (written_same n w v cs)

pub standing_stored : (cs : List Cell) (h : Receiver) (w : ℕ) (v : ℤ) → standing (stored cs h w v) ≡ standing cs
standing_stored cs h w v = grind (arith, written_same)

asked_same : (n : ℕ) (r : Option Request) (cs : List Cell) → standing (set_request n r cs) ≡ standing cs
asked_same n r [] = refl
asked_same n r (c ∷ cs) = ap (λ x. cond (is_object c.object.thing) (cond (is_going c.owner) x (suc x)) x) (asked_same n r cs)

pub standing_asked : (cs : List Cell) (h : Receiver) (r : Option Request) → standing (request_updated cs h r) ≡ standing cs
standing_asked cs h r = grind (arith, asked_same)

redeemed_same : (order : ℕ) (code : ℤ) (cs : List Cell) → standing (all_redeemed order code cs) ≡ standing cs
redeemed_same order code [] = refl
redeemed_same order code (c ∷ cs) = ap (λ x. cond (is_object c.object.thing) (cond (is_going c.owner) x (suc x)) x) (redeemed_same order code cs)

pub standing_redeemed : (order : Option ℕ) (code : ℤ) (cs : List Cell) → standing (redeemed_by order code cs) ≡ standing cs
standing_redeemed x code cs = grind (arith, nat_tests, redeemed_same)

opened_same : (n : ℕ) (b : Bool) (cs : List Cell) → standing (set_session n b cs) ≡ standing cs
opened_same n b [] = refl
opened_same n b (c ∷ cs) = ap (λ x. cond (is_object c.object.thing) (cond (is_going c.owner) x (suc x)) x) (opened_same n b cs)

pub standing_opened : (cs : List Cell) (h : Receiver) (b : Bool) → standing (session_updated cs h b) ≡ standing cs
standing_opened cs h b = grind (arith, opened_same)

served_same : (n : ℕ) (v : Service) (cs : List Cell) → standing (set_service n v cs) ≡ standing cs
served_same n v [] = refl
served_same n v (c ∷ cs) = ap (λ x. cond (is_object c.object.thing) (cond (is_going c.owner) x (suc x)) x) (served_same n v cs)

pub standing_reserved : (f : Service → Service) (n : ℕ) (cs : List Cell) → standing (reserved f n cs) ≡ standing cs
standing_reserved f n cs = served_same n (f (service_of cs n)) cs

-- a session that is accepted still stands
pub standing_accepted : (d : Dispatch) (e i : ℕ) (cs : List Cell) → standing (accepted_cells d (Register e i) cs) ≤ standing cs
standing_accepted (Of_server x client Accepts) e i cs =
    let place = Elsewhere (Session x.object.name client) in
    omega (arith, standing_reserved (opened client) x.object.name (moved (Register e i) place cs), standing_moved (Register e i) place cs refl)
standing_accepted x e i cs = grind arith

-- ---- a server goes

standing_unqueued : (n : ℕ) (cs : List Cell) → standing (without_queue n cs) ≤ standing cs
standing_unqueued n [] = omega arith
standing_unqueued n (c ∷ cs) = grind (arith, standing_unqueued n cs)

slot_released_same : (client : ℕ) (cs : List Cell) → standing (all_slot_released client cs) ≡ standing cs
slot_released_same client [] = refl
slot_released_same client (c ∷ cs) = ap (λ x. cond (is_object c.object.thing) (cond (is_going c.owner) x (suc x)) x) (slot_released_same client cs)

standing_slot_released : (clients : List ℕ) (cs : List Cell) → standing (each_slot_released clients cs) ≡ standing cs
standing_slot_released [] cs = refl
standing_slot_released (c ∷ clients) cs = standing_slot_released clients (all_slot_released c cs) ∙ slot_released_same c cs

-- the cell is gone, and what waited in its queue
pub standing_gone : (clients : List ℕ) (g : Place) (n : ℕ) (cs : List Cell) → standing (each_slot_released clients (without g (without_queue n cs))) ≤ standing cs
standing_gone clients g n cs =
    omega (arith, standing_slot_released clients (without g (without_queue n cs)), standing_without g (without_queue n cs), standing_unqueued n cs)

pub field_stands : (h : Receiver) (f : ℕ) → is_going (field_place h f) ≡ false
field_stands x f = grind arith

-- ---- operations

pub operations_below : (items : List Item) → operations (below_top items) ≤ operations items
operations_below x = grind arith
