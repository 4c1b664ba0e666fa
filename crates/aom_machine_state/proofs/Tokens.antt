-- The machine's tokens stand for those of the checked machine: as one is handed out, as its request is aborted, and as one is replied to.
use Rattle.std.proofs.lemmas.Bool.Decides.{nat_tests}
use Rattle.std.proofs.Common.{arith, Bool, List, None, Option, Some, ap, cond, false, length, refl, sym, true, ℕ, ℤ, ◌==◌, ◌∙◌, ◌≡◌, ◌≢◌}
use Rattle.std.specs.Prelude.{is_some}
use Rattle.std.proofs.lemmas.Bool.{eq-eqb, eqb-true, false≢true, ne_eqb}
use Rattle.std.proofs.lemmas.Option.{none-some, same_Some}
use Rattle.aom_image.specs.Image.{Image}
use Rattle.aom_machine_state.proofs.Serving.{names_apart}
use Rattle.aom_machine_state.specs.Serving.{message_name}
use Rattle.aom_machine_state.specs.Tokens.{Living, SameTokens, class_in, class_reported, reported_at}
use Rattle.aom_machine_state.proofs.SafetyLemmas.{awaited_redeemed, redeemed_alike, requested_redeemed, service_unnamed, service_without, reported_as_before}
use Rattle.aom_machine_state.proofs.SafetyLemmas.{waits_for}
use Rattle.aom_machine_state.proofs.SemanticsLemmas.{requested_unnamed, requested_without, unnamed}
use Rattle.aom_semantics.specs.Places.{Cell, Object, Place, Service, NoDuplicates, Token, held, named, requested, service_of, unserved, without}
use Rattle.aom_semantics.specs.Tokens.{TokensApart, all_redeemed, awaited, order_in, redeemed_request, with_token}
use Rattle.aom_cells.specs.Tokens.{Kept, Sets, class_at, class_kept, live_at, object_at, object_kept}

other_than : (m x : ℕ) → (m == x) ≡ false → x ≢ m
other_than m x e same = false≢true (sym e ∙ eq-eqb m x (sym same))

some_of : (o : Option ℕ) (k : ℕ) → o ≡ Some k → is_some o ≡ true
some_of o k e = ap is_some e

waited : (o : Option ℕ) → is_some o ≡ true → (k : ℕ) × (o ≡ Some k)
waited x e = grind arith

-- ---- what changes no token and no request that waits for one

module _ (p : Image) (w : Kept) (cs us : List Cell) where
  pub tokens_still : ((n : ℕ) → awaited (requested us n) ≡ awaited (requested cs n)) →
      ((m : ℕ) → (service_of us (message_name m)).token ≡ (service_of cs (message_name m)).token) → SameTokens p w cs → SameTokens p w us
  tokens_still asks reports same = record {
    classes = λ m. same.classes m ∙ sym (ap class_in (reports m));
    waits = λ n k e.
        let x = same.waits n k (sym (asks n) ∙ e) in
        record { place = x.place; lives = x.lives; reported = ap order_in (reports x.place) ∙ x.reported; object = x.object };
    lives = λ n m e. ap is_some (asks n) ∙ same.lives n m e;
    places = same.places;
    cells = same.cells;
  }

-- ---- a request is aborted

module _ (p : Image) (w new : Kept) (cs us : List Cell) (same : SameTokens p w cs) (asker : ℕ)
    (others : (n : ℕ) → (asker == n) ≡ false → awaited (requested us n) ≡ awaited (requested cs n)) (over : awaited (requested us asker) ≡ None)
    (reports : (m : ℕ) → (service_of us (message_name m)).token ≡ (service_of cs (message_name m)).token)
    (places : new.places ≡ w.places) (forgets : Sets w.living new.living asker None) where
  live_then : (n : ℕ) → (asker == n) ≡ false → live_at new n ≡ live_at w n
  live_then n other = forgets.others n (other_than asker n other)

  class_then : (m : ℕ) → class_at new m ≡ class_at w m
  class_then m = ap (λ ts. class_at (record new { places = ts }) m) places

  object_then : (m : ℕ) → object_at new m ≡ object_at w m
  object_then m = ap (λ ts. object_at (record new { places = ts }) m) places

  pub tokens_forgotten : SameTokens p new us
  tokens_forgotten = record {
    classes = λ m. class_then m ∙ same.classes m ∙ sym (ap class_in (reports m));
    waits = λ n k e. waiting n k e (asker == n) refl;
    lives = λ n m e. living n m e (asker == n) refl;
    places = ap length places ∙ same.places;
    cells = forgets.size ∙ same.cells;
  }
    where
      waiting : (n k : ℕ) → awaited (requested us n) ≡ Some k → (b : Bool) → (asker == n) ≡ b → Living new us n k
      waiting n k e true is = absurd (none-some k (sym over ∙ ap (λ i. awaited (requested us i)) (eqb-true asker n is) ∙ e))
      waiting n k e false other =
          let x = same.waits n k (sym (others n other) ∙ e) in
          record { place = x.place; lives = live_then n other ∙ x.lives; reported = ap order_in (reports x.place) ∙ x.reported; object = object_then x.place ∙ x.object }

      living : (n m : ℕ) → live_at new n ≡ Some m → (b : Bool) → (asker == n) ≡ b → is_some (awaited (requested us n)) ≡ true
      living n m e true is = absurd (none-some m (sym forgets.here ∙ ap (live_at new) (eqb-true asker n is) ∙ e))
      living n m e false other = ap is_some (others n other) ∙ same.lives n m (sym (live_then n other) ∙ e)

-- ---- a token is handed out

module _ (p : Image) (w new : Kept) (cs us : List Cell) (same : SameTokens p w cs) (m asker class order : ℕ) (owner : Place)
    (reports : (n : ℕ) → (service_of us (message_name n)).token ≡ (service_of cs (message_name n)).token) (unused : named us (message_name m) ≡ None)
    (asks : awaited (requested us asker) ≡ Some order) (others : (n : ℕ) → (asker == n) ≡ false → awaited (requested us n) ≡ awaited (requested cs n))
    (hands : Sets w.places new.places m (Some (record { class = class; object = asker }))) (lives : Sets w.living new.living asker (Some m)) where
  abbrev token : Token
  token = record { class = class; order = order }

  abbrev vs : List Cell
  vs = with_token (message_name m) token owner us

  own_token : (x : ℕ) → (m == x) ≡ true → (service_of vs (message_name x)).token ≡ Some token
  own_token x is = ap (λ b. (cond b (record unserved { token = Some token }) (service_of us (message_name x))).token)
      (eq-eqb (message_name m) (message_name x) (ap message_name (eqb-true m x is)))

  old_token : (x : ℕ) → (m == x) ≡ false → (service_of vs (message_name x)).token ≡ (service_of cs (message_name x)).token
  old_token x other = grind (arith, nat_tests, names_apart m x other)

  no_token : reported_at cs m ≡ None
  no_token = sym (ap order_in (reports m)) ∙ ap (λ (v : Service). order_in v.token) (service_unnamed us (message_name m) unused)

  waits_as_before : (n k : ℕ) → awaited (requested vs n) ≡ Some k → awaited (requested us n) ≡ Some k
  waits_as_before n k e = grind (arith, nat_tests)

  -- what waits is not the new token's own cell
  asked_there : (n : ℕ) → is_some (awaited (requested us n)) ≡ true → awaited (requested vs n) ≡ awaited (requested us n)
  asked_there n some = grind (arith, nat_tests, requested_unnamed us n, eqb-true)

  waiting : (n k : ℕ) → awaited (requested us n) ≡ Some k → (b : Bool) → (asker == n) ≡ b → Living new vs n k
  waiting n k e true is =
      let one : order ≡ k = same_Some order k (sym asks ∙ ap (λ i. awaited (requested us i)) (eqb-true asker n is) ∙ e) in
      record {
        place = m;
        lives = sym (ap (live_at new) (eqb-true asker n is)) ∙ lives.here;
        reported = ap order_in (own_token m (eq-eqb m m refl)) ∙ ap (λ i. Some i) one;
        object = ap object_kept hands.here ∙ ap (λ i. Some i) (eqb-true asker n is);
      }
  waiting n k e false other =
      let x = same.waits n k (sym (others n other) ∙ e) in
      let apart : (m == x.place) ≡ false = ne_eqb m x.place (λ at. none-some k (sym no_token ∙ ap (reported_at cs) at ∙ x.reported)) in
      record {
        place = x.place;
        lives = lives.others n (other_than asker n other) ∙ x.lives;
        reported = ap order_in (old_token x.place apart) ∙ x.reported;
        object = ap object_kept (hands.others x.place (other_than m x.place apart)) ∙ x.object;
      }

  living : (n x : ℕ) → live_at new n ≡ Some x → (b : Bool) → (asker == n) ≡ b → is_some (awaited (requested us n)) ≡ true
  living n x e true is = some_of _ order (ap (λ i. awaited (requested us i)) (sym (eqb-true asker n is)) ∙ asks)
  living n x e false other = ap is_some (others n other) ∙ same.lives n x (sym (lives.others n (other_than asker n other)) ∙ e)

  class_now : (x : ℕ) (b : Bool) → (m == x) ≡ b → class_at new x ≡ class_reported vs x
  class_now x true is = sym (ap (class_at new) (eqb-true m x is)) ∙ ap class_kept hands.here ∙ sym (ap class_in (own_token x is))
  class_now x false other = ap class_kept (hands.others x (other_than m x other)) ∙ same.classes x ∙ sym (ap class_in (old_token x other))

  pub tokens_handed : SameTokens p new vs
  tokens_handed = record {
    classes = λ x. class_now x (m == x) refl;
    waits = λ n k e. let f = waits_as_before n k e in waiting n k f (asker == n) refl;
    lives = λ n x e. let some = living n x e (asker == n) refl in ap is_some (asked_there n some) ∙ some;
    places = hands.size ∙ same.places;
    cells = lives.size ∙ same.cells;
  }

-- ---- a token is replied to

module _ (p : Image) (w new : Kept) (cs : List Cell) (same : SameTokens p w cs) (apart : TokensApart cs) (no_duplicates : NoDuplicates cs) (m n k : ℕ) (code : ℤ)
    (g : Place) (it : Object) (there : held cs g ≡ Some it) (name : it.name ≡ message_name m) (unasked : requested cs (message_name m) ≡ None)
    (reported : reported_at cs m ≡ Some k) (object : object_at w m ≡ Some n) (freed : Sets w.places new.places m None) (size : length new.living ≡ length w.living)
    (goes : live_at w n ≡ Some m → live_at new n ≡ None) (stays : (live_at w n ≡ Some m → ⊥) → live_at new n ≡ live_at w n)
    (others : (x : ℕ) → (n == x) ≡ false → live_at new x ≡ live_at w x) where
  abbrev us : List Cell
  us = all_redeemed k code cs

  abbrev left : List Cell
  left = without g us

  held_then : held us g ≡ Some it
  held_then = (redeemed_alike k code cs).held_so g ∙ there

  tidy_then : NoDuplicates us
  tidy_then = (redeemed_alike k code cs).no_duplicates no_duplicates

  -- at another place all is as it was
  other_token : (x : ℕ) → (m == x) ≡ false → (service_of left (message_name x)).token ≡ (service_of cs (message_name x)).token
  other_token x other = ap (λ (v : Service). v.token) (service_without us g it (message_name x) tidy_then held_then
      (ap (λ i. i == message_name x) name ∙ names_apart m x other) ∙ reported_as_before k code cs (message_name x))

  gone_token : (service_of left (message_name m)).token ≡ None
  gone_token = ap (λ (v : Service). v.token) (service_unnamed left (message_name m) (ap (named left) (sym name) ∙ unnamed us g it tidy_then held_then))

  -- what waited for another order waits for it still, and nothing else does
  asked_then : (x : ℕ) (b : Bool) → (message_name m == x) ≡ b → awaited (requested left x) ≡ awaited (redeemed_request k code (requested cs x))
  asked_then x true is =
      let one = eqb-true (message_name m) x is in
      ap awaited (requested_unnamed left x (ap (named left) (sym (name ∙ one)) ∙ unnamed us g it tidy_then held_then))
      ∙ sym (ap (λ r. awaited (redeemed_request k code r)) (ap (requested cs) (sym one) ∙ unasked))
  asked_then x false other = ap awaited (requested_without us g it x tidy_then held_then (ap (λ i. i == x) name ∙ other) ∙ requested_redeemed k code cs x)

  before : (x j : ℕ) → awaited (requested left x) ≡ Some j → (awaited (requested cs x) ≡ Some j) × ((k == j) ≡ false)
  before x j e = awaited_redeemed k code (requested cs x) j (sym (asked_then x (message_name m == x) refl) ∙ e)

  waits_left : (x j : ℕ) → awaited (requested left x) ≡ Some j → Living new left x j
  waits_left x j e =
      let was = before x j e in
      let old = same.waits x j was.0 in
      let other : (m == old.place) ≡ false =
      ne_eqb m old.place (λ at. false≢true (sym was.1 ∙ eq-eqb k j (same_Some k j (sym reported ∙ ap (reported_at cs) at ∙ old.reported)))) in
      record {
        place = old.place;
        lives = lives_on x old.place old.lives other (n == x) refl;
        reported = ap order_in (other_token old.place other) ∙ old.reported;
        object = ap object_kept (freed.others old.place (other_than m old.place other)) ∙ old.object;
      }
    where
      lives_on : (x at : ℕ) → live_at w x ≡ Some at → (m == at) ≡ false → (b : Bool) → (n == x) ≡ b → live_at new x ≡ Some at
      lives_on x at lives other true is = grind (arith, nat_tests, eqb-true n x is, eq-eqb m at, same_Some m at)
      lives_on x at lives other false differs = others x differs ∙ lives

  -- whose living token this was waits no more
  was_lives : (x at : ℕ) → live_at new x ≡ Some at → (live_at w x ≡ Some at) × (awaited (requested cs x) ≡ Some k → ⊥)
  was_lives x at e = go (n == x) refl
    where
      kept : (b : Bool) → (n == x) ≡ b → (live_at w x ≡ Some m → ⊥) → live_at w x ≡ Some at
      kept true is not_m =
          let one = eqb-true n x is in
          sym (ap (live_at w) one) ∙ sym (stays (λ here. not_m (sym (ap (live_at w) one) ∙ here))) ∙ ap (live_at new) one ∙ e
      kept false differs not_m = sym (others x differs) ∙ e

      not_this : (b : Bool) → (n == x) ≡ b → live_at w x ≡ Some m → awaited (requested cs x) ≡ Some k → ⊥
      not_this true is here waits = let one = eqb-true n x is in none-some at (sym (goes (ap (live_at w) one ∙ here)) ∙ ap (live_at new) one ∙ e)
      not_this false differs here waits =
          let old = same.waits x k waits in
          let at_m : old.place ≡ m = same_Some old.place m (sym old.lives ∙ here) in
          false≢true (sym differs ∙ eq-eqb n x (same_Some n x (sym object ∙ ap (object_at w) (sym at_m) ∙ old.object)))

      -- where it waits for this order, its living token is this one
      no_wait : awaited (requested cs x) ≡ Some k → ⊥
      no_wait waits =
          let old = same.waits x k waits in
          let names : message_name old.place ≡ message_name m = apart.reported (message_name old.place) (message_name m) k old.reported reported in
          let at_m : old.place ≡ m = omega (arith, names) in
          not_this (n == x) refl (old.lives ∙ ap (λ i. Some i) at_m) waits

      go : (b : Bool) → (n == x) ≡ b → (live_at w x ≡ Some at) × (awaited (requested cs x) ≡ Some k → ⊥)
      go true is =
          let one = eqb-true n x is in
          (kept true is (λ here. none-some at (sym (goes (ap (live_at w) one ∙ here)) ∙ ap (live_at new) one ∙ e)), no_wait)
      go false differs = (sym (others x differs) ∙ e, no_wait)

  lives_left : (x at : ℕ) → live_at new x ≡ Some at → is_some (awaited (requested left x)) ≡ true
  lives_left x at e = grind (arith, nat_tests, was_lives x at e, waited, asked_then x, some_of, waits_for k)

  class_left : (x : ℕ) (b : Bool) → (m == x) ≡ b → class_at new x ≡ class_reported left x
  class_left x true is = grind (arith, nat_tests, eqb-true m x is, gone_token)
  class_left x false other = grind (arith, nat_tests, other_than m x other, other_token x other)

  pub tokens_redeemed : SameTokens p new left
  tokens_redeemed =
      record { classes = λ x. class_left x (m == x) refl; waits = waits_left; lives = lives_left; places = freed.size ∙ same.places; cells = size ∙ same.cells }
