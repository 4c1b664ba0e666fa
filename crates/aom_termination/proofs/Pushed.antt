-- What the objects at some kinds of places, and the operations on the cleanup stack, may still cost, after each change of the cells and of the items.
use Rattle.std.proofs.lemmas.Bool.Decides.{nat_tests}
use Rattle.std.proofs.Common.{◌≡◌, ◌≤◌, ◌+◌, ◌∙◌, ℕ, ℤ, Bool, true, false, List, [], ◌∷◌, Option, Some, None, refl, ap, arith}
use Rattle.aom_semantics.specs.Tokens.{all_redeemed, redeemed_by}
use Rattle.aom_semantics.specs.Requests.{request_updated}
use Rattle.aom_semantics.specs.Clients.{each_slot_released}
use Rattle.aom_semantics.specs.Places.{Cell, Object, Place, Request, Service, NoDuplicates, held, moved, set_request, set_service, set_session, set_word_field, without}
use Rattle.aom_semantics.specs.Servers.{all_slot_released, is_queue, withdrawn, without_queue}
use Rattle.aom_semantics.specs.State.{Receiver, Item, field_place}
use Rattle.aom_semantics.specs.Calls.{below_top}
use Rattle.aom_semantics.specs.Words.{stored}
use Rattle.aom_termination.proofs.SemanticsLemmas.{same_place-true}
use Rattle.aom_static_bounds.specs.Prices.{Prices}
use Rattle.aom_termination.specs.Left.{due, is_entry, is_session_with, operations_left, owned_left}
use Rattle.aom_semantics.specs.Natives.{session_updated}
use Rattle.aom_termination.proofs.SafetyLemmas.{reset}
use Rattle.std.specs.Prelude.{map}

pub field_no_entry : (h : Receiver) (f : ℕ) → is_entry (field_place h f) ≡ false
field_no_entry x f = grind arith

pub field_no_session : (n : ℕ) (h : Receiver) (f : ℕ) → is_session_with n (field_place h f) ≡ false
field_no_session n x f = grind arith

module _ (c : Prices) (counts : Place → Bool) where
  -- ---- one cell

  -- ---- all cells

  -- what moves to a place that does not count
  pub moved_less : (from to : Place) (cs : List Cell) → counts to ≡ false → owned_left c counts (moved from to cs) ≤ owned_left c counts cs
  moved_less from to [] e = omega arith
  moved_less from to (x ∷ cs) e = grind (arith, moved_less from to cs e)

  -- what is there leaves such a place
  pub leaves_place : (from to : Place) (o : Object) (cs : List Cell) → counts from ≡ true → counts to ≡ false → held cs from ≡ Some o →
      owned_left c counts (moved from to cs) + c.destruction o.thing ≤ owned_left c counts cs
  leaves_place from to o [] f e there = cc
  leaves_place from to o (x ∷ cs) f e there = grind (arith, leaves_place from to o cs f e, moved_less from to cs e, same_place-true x.owner from)

  -- nothing moves where nothing is held
  pub none_moves : (from to : Place) (cs : List Cell) → held cs from ≡ None → owned_left c counts (moved from to cs) ≤ owned_left c counts cs
  none_moves from to [] e = omega arith
  none_moves from to (x ∷ cs) e = grind (arith, none_moves from to cs)

  -- what is there comes to any place
  pub enters_place : (from to : Place) (o : Object) (cs : List Cell) → NoDuplicates cs → held cs from ≡ Some o →
      owned_left c counts (moved from to cs) ≤ owned_left c counts cs + c.destruction o.thing
  enters_place from to o [] no_duplicates there = omega arith
  enters_place from to o (x ∷ cs) no_duplicates there = grind (arith, enters_place from to o cs no_duplicates.2, none_moves from to cs, same_place-true x.owner from, no_duplicates.0)

  pub without_less : (from : Place) (cs : List Cell) → owned_left c counts (without from cs) ≤ owned_left c counts cs
  without_less from [] = omega arith
  without_less from (x ∷ cs) = grind (arith, without_less from cs)

  written_same : (n w : ℕ) (v : ℤ) (cs : List Cell) → owned_left c counts (set_word_field n w v cs) ≡ owned_left c counts cs
  written_same n w v [] = refl
  written_same n w v (x ∷ cs) = ap (λ y. due c counts x.owner x.object + y) (written_same n w v cs)

  pub stored_same : (cs : List Cell) (h : Receiver) (w : ℕ) (v : ℤ) → owned_left c counts (stored cs h w v) ≡ owned_left c counts cs
  stored_same cs h w v = grind (arith, written_same)

  pub asked_same : (n : ℕ) (r : Option Request) (cs : List Cell) → owned_left c counts (set_request n r cs) ≡ owned_left c counts cs
  asked_same n r [] = refl
  asked_same n r (x ∷ cs) = ap (λ y. due c counts x.owner x.object + y) (asked_same n r cs)

  pub request_updated_same : (cs : List Cell) (h : Receiver) (r : Option Request) → owned_left c counts (request_updated cs h r) ≡ owned_left c counts cs
  request_updated_same cs h r = grind (arith, asked_same)

  completed_same : (order : ℕ) (code : ℤ) (cs : List Cell) → owned_left c counts (all_redeemed order code cs) ≡ owned_left c counts cs
  completed_same order code [] = refl
  completed_same order code (x ∷ cs) = ap (λ y. due c counts x.owner x.object + y) (completed_same order code cs)

  pub redeemed_same : (order : Option ℕ) (code : ℤ) (cs : List Cell) → owned_left c counts (redeemed_by order code cs) ≡ owned_left c counts cs
  redeemed_same x code cs = grind (arith, nat_tests, completed_same)

  opened_same : (n : ℕ) (b : Bool) (cs : List Cell) → owned_left c counts (set_session n b cs) ≡ owned_left c counts cs
  opened_same n b [] = refl
  opened_same n b (x ∷ cs) = ap (λ y. due c counts x.owner x.object + y) (opened_same n b cs)

  pub session_updated_same : (cs : List Cell) (h : Receiver) (b : Bool) → owned_left c counts (session_updated cs h b) ≡ owned_left c counts cs
  session_updated_same cs h b = grind (arith, opened_same)

  -- each cell has another request and another session
  pub reset_same : (f : Cell → Option Request) (g : Cell → Bool) (cs : List Cell) → owned_left c counts (map (reset f g) cs) ≡ owned_left c counts cs
  reset_same f g [] = refl
  reset_same f g (x ∷ cs) = ap (λ y. due c counts x.owner x.object + y) (reset_same f g cs)

  -- ---- what clients have at cells

  pub served_same : (n : ℕ) (v : Service) (cs : List Cell) → owned_left c counts (set_service n v cs) ≡ owned_left c counts cs
  served_same n v [] = refl
  served_same n v (x ∷ cs) = ap (λ y. due c counts x.owner x.object + y) (served_same n v cs)

  slot_released_same : (client : ℕ) (cs : List Cell) → owned_left c counts (all_slot_released client cs) ≡ owned_left c counts cs
  slot_released_same client [] = refl
  slot_released_same client (x ∷ cs) = ap (λ y. due c counts x.owner x.object + y) (slot_released_same client cs)

  pub each_slot_released_same : (clients : List ℕ) (cs : List Cell) → owned_left c counts (each_slot_released clients cs) ≡ owned_left c counts cs
  each_slot_released_same [] cs = refl
  each_slot_released_same (k ∷ clients) cs = each_slot_released_same clients (all_slot_released k cs) ∙ slot_released_same k cs

  pub queue_less : (n : ℕ) (cs : List Cell) → owned_left c counts (without_queue n cs) ≤ owned_left c counts cs
  queue_less n [] = omega arith
  queue_less n (x ∷ cs) = grind (arith, queue_less n cs)

  -- of messages in queues nothing counts
  pub withdrawn_same : ((r : Place) → is_queue r ≡ true → counts r ≡ false) → (client : ℕ) (cs : List Cell) →
      owned_left c counts (withdrawn client cs) ≡ owned_left c counts cs
  withdrawn_same none client [] = refl
  withdrawn_same none client (x ∷ cs) = grind (arith, withdrawn_same none client cs, none x.owner)

module _ (c : Prices) where
  -- ---- items

  pub operations_below : (items : List Item) → operations_left c (below_top items) ≤ operations_left c items
  operations_below x = grind arith
