-- What is read of cells and done to them, under other names: the same, renamed.
use Rattle.std.proofs.lemmas.Bool.Decides.{nat_tests}
use Rattle.aom_semantics.specs.Clients.{count_messages}
use Rattle.aom_semantics.specs.Natives.{is_owed}
use Rattle.aom_semantics.specs.Tokens.{awaited, awaits, is_redeemable, next_token, order_in, order_past, redeemed_by}
use Rattle.std.proofs.Common.{arith, Bool, List, None, Option, Some, [], ap, cond, length, refl, suc, zero, ℕ, ℤ, ◌&&◌, ◌==◌, ◌∷◌, ◌≡◌}
use Rattle.std.proofs.lemmas.Bool.{eq-eqb, eqb-false, eqb-true, ne_eqb}
use Rattle.std.proofs.lemmas.List.{length-map}
use Rattle.std.specs.Prelude.{map, max, not, option_map}
use Rattle.aom_image.specs.declared.method.Thing.{Thing}
use Rattle.aom_roles.specs.Things.{is_object}
use Rattle.aom_semantics.specs.Calls.{is_register_but, none_owns_but}
use Rattle.aom_semantics.specs.Destruction.{is_past, needs_past, owns_none_past, is_field_of, needs_emptied, owns_none}
use Rattle.aom_semantics.specs.Requests.{next_order, next_timer, order_after, request_after}
use Rattle.aom_semantics.specs.Places.{Cell, Elsewhere, Entry, Field, Going, Place, Register, Request, held, moved, named, requested, same_place}
use Rattle.aom_semantics.specs.Places.{set_request, set_word_field, without, word_field, in_session, set_session, count_cells, Other}
use Rattle.aom_semantics.specs.State.{Task}
use Rattle.aom_semantics.specs.World.{cell_at}
use Rattle.aom_determinism.specs.Names.{IsOneToOne, renamed_cell, renamed_cells, renamed_object, renamed_place, renamed_tasks, renamed_other}

-- a renamed answer
pub cond_mapped : {A B : Type 0} (f : A → B) (b : Bool) (x : A) (o : Option A) → cond b (Some (f x)) (option_map f o) ≡ option_map f (cond b (Some x) o)
cond_mapped f x y o = grind arith

pub cond_applied : {A B : Type 0} (f : A → B) (b : Bool) (x y : A) → cond b (f x) (f y) ≡ f (cond b x y)
cond_applied f x y z = grind arith

module _ (names : ℕ → ℕ) (one_to_one : IsOneToOne names) where
  pub same_name : (n m : ℕ) → (names n == names m) ≡ (n == m)
  same_name n m = grind (arith, nat_tests, eq-eqb (names n) (names m), eqb-true n m, ne_eqb (names n) (names m), eqb-false n m)

  other_kept : (o w : Other) → same_place (Elsewhere (renamed_other names o)) (Elsewhere (renamed_other names w)) ≡ same_place (Elsewhere o) (Elsewhere w)
  other_kept x y = grind (arith, nat_tests, same_name)

  pub same_place_kept : (p q : Place) → same_place (renamed_place names p) (renamed_place names q) ≡ same_place p q
  same_place_kept (Field n f) (Field m g) = ap (λ b. b && (f == g)) (same_name n m)
  same_place_kept (Register f r) (Field m g) = refl
  same_place_kept (Entry k) (Field m g) = refl
  same_place_kept (Going k) (Field m g) = refl
  same_place_kept (Elsewhere o) (Field m g) = refl
  same_place_kept (Elsewhere o) (Elsewhere w) = other_kept o w
  same_place_kept _ _ = refl

  pub held_renamed : (cs : List Cell) (q : Place) → held (renamed_cells names cs) (renamed_place names q) ≡ option_map (renamed_object names) (held cs q)
  held_renamed [] q = refl
  held_renamed (c ∷ cs) q = grind (arith, nat_tests, same_place_kept c.owner q, held_renamed cs q, cond_mapped)

  pub named_renamed : (cs : List Cell) (n : ℕ) → named (renamed_cells names cs) (names n) ≡ option_map (renamed_object names) (named cs n)
  named_renamed [] n = refl
  named_renamed (c ∷ cs) n = grind (arith, nat_tests, same_name c.object.name n, named_renamed cs n, cond_mapped)

  pub moved_renamed : (p q : Place) (cs : List Cell) →
      moved (renamed_place names p) (renamed_place names q) (renamed_cells names cs) ≡ renamed_cells names (moved p q cs)
  moved_renamed p q [] = refl
  moved_renamed p q (c ∷ cs) = grind (arith, nat_tests, same_place_kept c.owner p, cond_applied, moved_renamed p q cs)

  pub without_renamed : (q : Place) (cs : List Cell) → without (renamed_place names q) (renamed_cells names cs) ≡ renamed_cells names (without q cs)
  without_renamed q [] = refl
  without_renamed q (c ∷ cs) = grind (arith, nat_tests, same_place_kept c.owner q, without_renamed q cs, cond_applied)

  pub word_field_kept : (cs : List Cell) (n w : ℕ) → word_field (renamed_cells names cs) (names n) w ≡ word_field cs n w
  word_field_kept [] n w = refl
  word_field_kept (c ∷ cs) n w = rw (same_name c.object.name n, word_field_kept cs n w)

  pub set_word_field_renamed : (n w : ℕ) (v : ℤ) (cs : List Cell) →
      set_word_field (names n) w v (renamed_cells names cs) ≡ renamed_cells names (set_word_field n w v cs)
  set_word_field_renamed n w v [] = refl
  set_word_field_renamed n w v (c ∷ cs) = rw (same_name c.object.name n, set_word_field_renamed n w v cs)

  pub requested_kept : (cs : List Cell) (n : ℕ) → requested (renamed_cells names cs) (names n) ≡ requested cs n
  requested_kept [] n = refl
  requested_kept (c ∷ cs) n = rw (same_name c.object.name n, requested_kept cs n)

  pub set_request_renamed : (n : ℕ) (r : Option Request) (cs : List Cell) →
      set_request (names n) r (renamed_cells names cs) ≡ renamed_cells names (set_request n r cs)
  set_request_renamed n r [] = refl
  set_request_renamed n r (c ∷ cs) = rw (same_name c.object.name n, set_request_renamed n r cs)

  pub in_session_kept : (cs : List Cell) (n : ℕ) → in_session (renamed_cells names cs) (names n) ≡ in_session cs n
  in_session_kept [] n = refl
  in_session_kept (c ∷ cs) n = rw (same_name c.object.name n, in_session_kept cs n)

  pub set_session_renamed : (n : ℕ) (session : Bool) (cs : List Cell) →
      set_session (names n) session (renamed_cells names cs) ≡ renamed_cells names (set_session n session cs)
  set_session_renamed n session [] = refl
  set_session_renamed n session (c ∷ cs) = rw (same_name c.object.name n, set_session_renamed n session cs)

  is_field_kept : (n : ℕ) (q : Place) → is_field_of (names n) (renamed_place names q) ≡ is_field_of n q
  is_field_kept n x = grind (arith, nat_tests, same_name n)

  owns_none_kept : (such : Thing → Bool) (cs : List Cell) (n : ℕ) → owns_none such (renamed_cells names cs) (names n) ≡ owns_none such cs n
  owns_none_kept such [] n = refl
  owns_none_kept such (c ∷ cs) n = rw (is_field_kept n c.owner, owns_none_kept such cs n)

  is_past_kept : (k n : ℕ) (q : Place) → is_past k (names n) (renamed_place names q) ≡ is_past k n q
  is_past_kept k n x = grind (arith, nat_tests, same_name n)

  owns_past_kept : (k : ℕ) (such : Thing → Bool) (cs : List Cell) (n : ℕ) → owns_none_past k such (renamed_cells names cs) (names n) ≡ owns_none_past k such cs n
  owns_past_kept k such [] n = refl
  owns_past_kept k such (c ∷ cs) n = rw (is_past_kept k n c.owner, owns_past_kept k such cs n)

  pub past_kept : (k : ℕ) (cs : List Cell) (n : ℕ) → needs_past k (renamed_cells names cs) (names n) ≡ needs_past k cs n
  past_kept k cs n = rw (owns_past_kept k is_object cs n, owns_past_kept k (λ t. not (is_object t)) cs n)

  pub emptied_kept : (cs : List Cell) (n : ℕ) → needs_emptied (renamed_cells names cs) (names n) ≡ needs_emptied cs n
  emptied_kept cs n = rw (owns_none_kept is_object cs n, owns_none_kept (λ t. not (is_object t)) cs n)

-- what changes each cell without a look at its name
pub each_renamed : (names : ℕ → ℕ) (f : Cell → Cell) → ((c : Cell) → f (renamed_cell names c) ≡ renamed_cell names (f c)) → (cs : List Cell) →
    map f (renamed_cells names cs) ≡ renamed_cells names (map f cs)
each_renamed names f same [] = refl
each_renamed names f same (c ∷ cs) = grind (arith, nat_tests, each_renamed names f same cs)

-- a cell by its place in the list
pub cell_at_renamed : (names : ℕ → ℕ) (cs : List Cell) (k : ℕ) → cell_at (renamed_cells names cs) k ≡ option_map (renamed_cell names) (cell_at cs k)
cell_at_renamed names [] k = refl
cell_at_renamed names (c ∷ cs) zero = refl
cell_at_renamed names (c ∷ cs) (suc k) = cell_at_renamed names cs k

-- no order looks at a name
pub order_kept : (names : ℕ → ℕ) (cs : List Cell) → next_order (renamed_cells names cs) ≡ next_order cs
order_kept names [] = refl
order_kept names (c ∷ cs) = ap (max (order_after c.request)) (order_kept names cs)

pub timer_kept : (names : ℕ → ℕ) (cs : List Cell) → next_timer (renamed_cells names cs) ≡ next_timer cs
timer_kept names [] = refl
timer_kept names (c ∷ cs) = ap (max (request_after c.request)) (timer_kept names cs)

-- nor a token's
pub token_kept : (names : ℕ → ℕ) (cs : List Cell) → next_token (renamed_cells names cs) ≡ next_token cs
token_kept names [] = refl
token_kept names (c ∷ cs) = ap (λ n. max (order_past (order_in c.service.token)) (max (order_past (awaited c.request)) n)) (token_kept names cs)

pub messages_kept : (names : ℕ → ℕ) (cs : List Cell) → count_messages (renamed_cells names cs) ≡ count_messages cs
messages_kept names [] = refl
messages_kept names (c ∷ cs) = ap (λ n. cond (is_object c.object.thing) n (suc n)) (messages_kept names cs)

pub redeemed_renamed : (names : ℕ → ℕ) (order : Option ℕ) (code : ℤ) (cs : List Cell) →
    redeemed_by order code (renamed_cells names cs) ≡ renamed_cells names (redeemed_by order code cs)
redeemed_renamed names x code cs = grind (arith, nat_tests, each_renamed names)

pub redeemable_kept : (names : ℕ → ℕ) (order : Option ℕ) (cs : List Cell) → is_redeemable order (renamed_cells names cs) ≡ is_redeemable order cs
redeemable_kept names None cs = refl
redeemable_kept names (Some order) [] = refl
redeemable_kept names (Some order) (c ∷ cs) = ap (λ b. cond (awaits order c.request) (is_owed c.request && b) b) (redeemable_kept names (Some order) cs)

is_register_kept : (names : ℕ → ℕ) (d : ℕ) (spared : Option ℕ) (q : Place) → is_register_but d spared (renamed_place names q) ≡ is_register_but d spared q
is_register_kept names d x y = grind arith

pub none_owns_kept : (names : ℕ → ℕ) (cs : List Cell) (d : ℕ) (spared : Option ℕ) → none_owns_but (renamed_cells names cs) d spared ≡ none_owns_but cs d spared
none_owns_kept names [] d spared = refl
none_owns_kept names (c ∷ cs) d spared = rw (is_register_kept names d spared c.owner, none_owns_kept names cs d spared)

pub tasks_counted : (names : ℕ → ℕ) (ts : List Task) → length (renamed_tasks names ts) ≡ length ts
tasks_counted names ts = length-map ts _

pub cells_counted : (names : ℕ → ℕ) (cs : List Cell) → count_cells (renamed_cells names cs) ≡ count_cells cs
cells_counted names [] = refl
cells_counted names (c ∷ cs) = ap (λ n. cond (is_object c.object.thing) (suc n) n) (cells_counted names cs)
