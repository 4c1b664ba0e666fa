-- There is a table of prices: each method's is made from its last place down, and the image's by method.
use Rattle.std.proofs.lemmas.Bool.Decides.{nat_tests}
use Rattle.std.proofs.lemmas.Option.{same_Some}
use Rattle.std.proofs.Common.{◌≡◌, ◌<◌, ◌≤◌, ◌+◌, ◌-◌, ◌*◌, ◌∙◌, ℕ, zero, suc, cond, length, Option, Some, None, inl, inr, ⊎_elim, refl, sym, ap, arith, subst}
use Rattle.std.proofs.Math.Bool.{and-false}
use Rattle.std.specs.Prelude.{◌≢◌, ◌==◌, ◌⊎◌, ◌&&◌, IsSome, max}
use Rattle.std.proofs.lemmas.Bool.{cases_lt, eq-eqb, ne_eqb}
use Rattle.aom_image.specs.Image.{Image}
use Rattle.aom_image.specs.Views.{instr_at, instr_in, method_at}
use Rattle.aom_image.specs.WellFormed.{WellFormed}
use Rattle.aom_instructions.specs.declared.instr.Instr.{Instr}
use Rattle.aom_image.specs.declared.method.Method.{Method}
use Rattle.aom_image.specs.declared.method.Thing.{Thing}
use Rattle.aom_static_bounds.proofs.LinkConditionsLemmas.{linked_is_looped}
use Rattle.aom_link_conditions.specs.Bodies.{Body, IsLooped}
use Rattle.aom_link_conditions.specs.Linked.{IsLinked}
use Rattle.aom_link_conditions.specs.Loops.{loop_in, next_in}
use Rattle.aom_typing_rules.specs.Rules.{flows}
use Rattle.aom_abstract_state.specs.AbstractState.{AbstractState}
use Rattle.aom_typing_rules.specs.Typing.{IsTyped, Typing, shape_at}
use Rattle.aom_static_bounds.proofs.Ways.{JumpsForward}
use Rattle.aom_static_bounds.specs.Prices.{Prices, Stands, own}
use Rattle.aom_static_bounds.specs.Costs.{Region, destructor_price}
use Rattle.aom_static_bounds.specs.PriceLaws.{PricesAreFound}
use Rattle.aom_static_bounds.specs.Layers.{HasPrices, PaysBefore}
use Rattle.aom_static_bounds.specs.Sweeping.{LoopExits, IsAfter, IsInnermost, IsSwept, after, all_going, most_within}
use Rattle.aom_static_bounds.proofs.At.{IsSweptAt, from_each}
use Rattle.aom_static_bounds.proofs.Adding.{in_code, jumps_forward, law_is_price, way_forward}
use Rattle.aom_static_bounds.proofs.Going.{going_same}
use Rattle.aom_static_bounds.proofs.Methods.{method_within}
use Rattle.aom_static_bounds.proofs.Moving.{AreSameFrom, most_same, own_same, swept_same}
use Rattle.aom_static_bounds.proofs.Places.{loop_there, next_there, nothing_there, pays_after, plain_there}
use Rattle.aom_static_bounds.proofs.LoopEscapes.{body_out, exit_most}
use Rattle.aom_static_bounds.proofs.Paying.{law_pays}
use Rattle.aom_static_bounds.proofs.Regions.{BeginsLoop, EndsRound, LoopIn, NextIn, by_kind, innermost, innermost_of_body, one_end, one_innermost, stands_so}
use Rattle.aom_static_bounds.proofs.Among.{below_next, either_max}
use Rattle.aom_static_bounds.proofs.ImageLemmas.{none_given, some_given}
use Rattle.aom_static_bounds.specs.Costs.{GoesOut}
use Rattle.aom_static_bounds.proofs.LoopEscapes.{exit_one}

-- ---- numbers by method and place

-- with another number there
set : (ℕ → ℕ → ℕ) → (m place v : ℕ) → ℕ → ℕ → ℕ
set f m place v k x = cond ((k == m) && (x == place)) v (f k x)

set_here : (f : ℕ → ℕ → ℕ) (m place v : ℕ) → set f m place v m place ≡ v
unfolding set
set_here f m place v = grind (arith, nat_tests, eq-eqb m m, eq-eqb place place)

set_method : (f : ℕ → ℕ → ℕ) (m place v k x : ℕ) → k ≢ m → set f m place v k x ≡ f k x
unfolding set
set_method f m place v k x other = ap (λ b. cond (b && (x == place)) v (f k x)) (ne_eqb k m other)

set_place : (f : ℕ → ℕ → ℕ) (m place v k x : ℕ) → x ≢ place → set f m place v k x ≡ f k x
unfolding set
set_place f m place v k x other = grind (arith, nat_tests, ne_eqb x place other, and-false (k == m))

not_same : (x y : ℕ) → x < y → y ≢ x
not_same x y lt e = omega (arith, lt, e)

not_below : (x y : ℕ) → x < y → x ≢ y
not_below x y lt e = omega (arith, lt, e)

-- ---- a table of such numbers

abbrev destructor_cost : (ℕ → ℕ → ℕ) → Option ℕ → ℕ
destructor_cost f None = 0
destructor_cost f (Some m) = f m 0

abbrev prices_of : Image → (ℕ → ℕ → ℕ) → (ℕ → ℕ → ℕ) → Prices
prices_of p f g = record { from = f; round = g; destruction = λ x. all_going p (destructor_cost f) x }

classes_of : (p : Image) (f g : ℕ → ℕ → ℕ) (x : Thing) → (prices_of p f g).destruction x ≡ all_going p (destructor_price (prices_of p f g)) x
classes_of p f g x = going_same p (destructor_cost f) (destructor_price (prices_of p f g)) refl x (λ k runs. refl)

-- numbers that are found for the methods before one
record Below (p : Image) (t : Typing) (m : ℕ) : Type 0 where
  pub from : ℕ → ℕ → ℕ
  pub round : ℕ → ℕ → ℕ
  pub after : LoopExits
  pub before : (k place : ℕ) → k < m → IsSweptAt (λ n. n) p t (prices_of p from round) after k place

-- and for that one from a place on
record Made (p : Image) (t : Typing) (m down : ℕ) : Type 0 where
  pub from : ℕ → ℕ → ℕ
  pub round : ℕ → ℕ → ℕ
  pub after : LoopExits
  pub before : (k place : ℕ) → k < m → IsSweptAt (λ n. n) p t (prices_of p from round) after k place
  pub here : (place : ℕ) → down ≤ place → IsSweptAt (λ n. n) p t (prices_of p from round) after m place

-- ---- a place more

no_method : (p : Image) (m place : ℕ) → method_at p m ≡ None → instr_at p m place ≡ None
unfolding instr_in
no_method p m place e = ap (λ o. instr_in o place) e

module _ (p : Image) (t : Typing) (looped : IsLooped p) (typed : IsTyped p t) (layered : PaysBefore p t) (forward : (m : ℕ) → JumpsForward p m) where
  module _ (m k : ℕ) (w : Made p t m (suc k)) where
    abbrev old : Prices
    old = prices_of p w.from w.round

    -- two numbers change there, and what follows a loop that ends there
    module _ (v u : ℕ) (h : LoopExits) (others : (j x : ℕ) → j < m → h j x ≡ w.after j x)
        (loops : (from to d n : ℕ) → k < to → Body p m from to d n → h m from ≡ w.after m from) where
      abbrev new : Prices
      new = prices_of p (set w.from m k v) (set w.round m k u)

      same_before : (j place : ℕ) → j < m → AreSameFrom p old new w.after h j place
      same_before j place lt = record {
        before = λ i below. set_method w.from m k v i 0 (not_below i m (omega (arith, lt, below)));
        from = λ x le. set_method w.from m k v j x (not_below j m lt);
        round = λ x le. set_method w.round m k u j x (not_below j m lt);
        after = λ from to d n le body. others j from lt;
      }

      same_here : (place : ℕ) → k < place → AreSameFrom p old new w.after h m place
      same_here place lt = record {
        before = λ i below. set_method w.from m k v i 0 (not_below i m below);
        from = λ x le. set_place w.from m k v m x (not_same k x (omega (arith, lt, le)));
        round = λ x le. set_place w.round m k u m x (not_same k x (omega (arith, lt, le)));
        after = λ from to d n le body. loops from to d n (omega (arith, lt, le)) body;
      }

      lower : IsSweptAt (λ n. n) p t new h m k → Made p t m k
      lower at = record {
        from = set w.from m k v;
        round = set w.round m k u;
        after = h;
        before = λ j place lt. swept_same (λ n. n) p t old new w.after h j looped (forward j) layered
            (classes_of p w.from w.round) (classes_of p (set w.from m k v) (set w.round m k u)) place (same_before j place lt) (w.before j place lt);
        here = λ place le. ⊎_elim (λ (lt : k < place). swept_same (λ n. n) p t old new w.after h m looped (forward m) layered
            (classes_of p w.from w.round) (classes_of p (set w.from m k v) (set w.round m k u)) place (same_here place lt) (w.here place (omega (arith, lt))))
            (λ (ge : place ≤ k). let same : k ≡ place = omega (arith, ge, le) in subst (λ x. IsSweptAt (λ n. n) p t new h m x) same at) (cases_lt k place);
      }

    kept_others : (j x : ℕ) → j < m → w.after j x ≡ w.after j x
    kept_others j x lt = refl

    kept_loops : (from to d n : ℕ) → k < to → Body p m from to d n → w.after m from ≡ w.after m from
    kept_loops from to d n lt body = refl

    -- nothing stands there
    at_end : instr_at p m k ≡ None → Made p t m k
    at_end none = lower 0 0 w.after kept_others kept_loops (nothing_there (λ n. n) p t (new 0 0 w.after kept_others kept_loops) w.after m k none)

    -- an instruction that is not reached
    at_unreached : (i : Instr) → instr_at p m k ≡ Some i → loop_in (Some i) ≡ None → next_in (Some i) ≡ None → shape_at t m k ≡ None → Made p t m k
    at_unreached i there l n none = lower 0 0 w.after kept_others kept_loops
        (plain_there (λ n. n) p t (new 0 0 w.after kept_others kept_loops) w.after m k i there l n (λ sh r at v. absurd (no_shape sh at.shape)))
      where
        no_shape : (sh : AbstractState) → shape_at t m k ≡ Some sh → ⊥
        no_shape sh some = let clash : None ≡ Some sh = sym none ∙ some in cc

    found_there : AbstractState → Instr → Region → ℕ
    found_there sh i r = own p m old sh i + max (after w.after m r) (most_within old m r (flows p m k sh i))

    at_plain : (i : Instr) → instr_at p m k ≡ Some i → loop_in (Some i) ≡ None → next_in (Some i) ≡ None → (sh : AbstractState) → shape_at t m k ≡ Some sh → Made p t m k
    unfolding found_there
    at_plain i there l n sh shape = lower v 0 w.after kept_others kept_loops (plain_there (λ n. n) p t table w.after m k i there l n found)
      where
        region : (r : Region) × IsInnermost p m k r
        region = innermost p looped m k

        v : ℕ
        v = found_there sh i region.0

        table : Prices
        table = new v 0 w.after kept_others kept_loops

        found : (s : AbstractState) (r : Region) → Stands p t m k s i → IsInnermost p m k r →
            table.from m k ≡ own p m table s i + max (after w.after m r) (most_within table m r (flows p m k s i))
        found s r at inner =
            let one = same_Some sh s (sym shape ∙ at.shape) in
            let place = one_innermost p looped m k region.0 r region.1 inner in
            let same : v ≡ found_there s i r = ap (λ x. found_there x i region.0) one ∙ ap (λ x. found_there s i x) place in
            let owned = own_same (λ n. n) p old table (classes_of p w.from w.round) (classes_of p (set w.from m k v) (set w.round m k 0)) m s i
            (λ j paid. set_method w.from m k v j 0 (not_below j m (layered.each m k j s i at paid))) in
            let on = most_same p old table m r _ (λ to among. set_place _ m k v m to (not_same k to (way_forward p t m (forward m) k to s i at n among))) in
            omega (arith, set_here w.from m k v, same, owned, on)

    at_loop : (d n : ℕ) → LoopIn (instr_at p m k) d n → Made p t m k
    at_loop d n there = lower v u w.after kept_others kept_loops (loop_there (λ n. n) p t table w.after m k d n there found round)
      where
        u : ℕ
        u = w.from m (suc k) - w.after m k

        v : ℕ
        v = 1 + (n - 1) * u + w.from m (suc k)

        table : Prices
        table = new v u w.after kept_others kept_loops

        on : table.from m (suc k) ≡ w.from m (suc k)
        on = set_place w.from m k v m (suc k) (not_same k (suc k) (omega arith))

        found : table.from m k ≡ 1 + (n - 1) * table.round m k + table.from m (suc k)
        found = grind (arith, nat_tests, u, set_here, v, on)

        round : IsSome (shape_at t m (suc k)) → table.from m (suc k) ≡ table.round m k + w.after m k
        round reached = some_given (λ o. IsSome o) (shape_at t m (suc k)) reached (λ s. cc) (λ sh shape s.
            let begins = looped.begins m k d n there in
            let paid = pays_after (λ n. n) p t looped typed old _ m _ _ (λ x le. le) w.here (sh, shape) (innermost_of_body p looped m k _ d n begins.2) in
            omega (arith, on, set_here w.round m k u, paid))

    module _ (d from n : ℕ) (there : NextIn (instr_at p m k) d (suc from)) (body : Body p m from k d n) where
      region : (r : Region) × IsInnermost p m from r
      region = innermost p looped m from

      -- what follows the loop
      follow : ℕ
      follow = max (after w.after m region.0) (body_out p t m from k (w.from m) (suc k))

      loop_exits : LoopExits
      loop_exits = set w.after m from follow

      next_others : (j x : ℕ) → j < m → loop_exits j x ≡ w.after j x
      unfolding loop_exits
      next_others j x lt = set_method w.after m from follow j x (not_below j m lt)

      next_loops : (f to e l : ℕ) → k < to → Body p m f to e l → loop_exits m f ≡ w.after m f
      unfolding loop_exits
      next_loops f to e l lt other = set_place w.after m from follow m f (λ same.
          let ends = one_end p looped m from k to d n e l body (subst (λ x. Body p m x to e l) same other) in
          omega (arith, lt, ends))

      abbrev table : Prices
      table = new (1 + follow) 0 loop_exits next_others next_loops

      followed : loop_exits m from ≡ follow
      unfolding loop_exits
      followed = set_here w.after m from follow

      on : (to : ℕ) → k < to → table.from m to ≡ w.from m to
      on to lt = set_place w.from m k (1 + follow) m to (not_same k to lt)

      round_it : (r : Region) → IsInnermost p m from r → after loop_exits m r ≡ after w.after m r
      unfolding loop_exits
      round_it x v = grind (arith, nat_tests, set_place, from, follow, not_below)

      is_after : (r : Region) → IsInnermost p m from r → IsAfter p t table loop_exits m from k r
      unfolding follow
      is_after r v =
          let same = ap (λ x. after w.after m x) (one_innermost p looped m from region.0 r region.1 v) in
          let around = round_it r v in
          record {
            around = omega (arith, followed, around, same);
            out = λ to g. omega (arith, followed, on to g.outside, exit_most p t m from k (w.from m) to g);
            met = either_max Met (after w.after m region.0) (body_out p t m from k (w.from m) (suc k)) (λ is. inl (omega (arith, is, around, same))) (exit_one p
                t m from k (w.from m) Met (λ is. inl (omega (arith, is, followed, around, same))) (λ to g is. inr (to, g, omega (arith, on to g.outside, is))))
                followed;
          }
        where
          Met : ℕ → Type 0
          Met n = loop_exits m from ≡ n → (loop_exits m from ≡ after loop_exits m r) ⊎ ((to : ℕ) × GoesOut p t m from k to × (table.from m to ≡ loop_exits m from))

      at_next : Made p t m k
      at_next = lower (1 + follow) 0 loop_exits next_others next_loops
          (next_there (λ n. n) p t table loop_exits m k d from there (omega (arith, set_here w.from m k (1 + follow), followed)) is_after)

    at_some : (i : Instr) → instr_at p m k ≡ Some i → Made p t m k
    at_some i there = by_kind (Made p t m k) i plain loop next
      where
        plain : loop_in (Some i) ≡ None → next_in (Some i) ≡ None → Made p t m k
        plain l n = grind (arith, nat_tests, at_unreached i there l n, at_plain i there l n)

        loop : (d n : ℕ) → BeginsLoop i d n → Made p t m k
        loop d n e = at_loop d n (stands_so _ i _ there e)

        next : (d to : ℕ) → EndsRound i d to → Made p t m k
        next d to e =
            let here = stands_so _ i _ there e in
            let closes = looped.closes m k d to here in
            at_next d closes.0 closes.1 (subst (λ x. NextIn (instr_at p m k) d x) closes.3 here) closes.2

    lowered : Made p t m k
    lowered = grind (arith, nat_tests, at_end, at_some)

  -- ---- a method more

  down_to : (m k : ℕ) → Made p t m k → Made p t m 0
  down_to m zero w = w
  down_to m (suc k) w = down_to m k (lowered m k w)

  method_made : (m : ℕ) → Below p t m → Made p t m 0
  method_made m b = go (method_at p m) refl
    where
      begin : (count : ℕ) → ((place : ℕ) → count ≤ place → instr_at p m place ≡ None) → Made p t m 0
      begin count none = down_to m count (record {
        from = b.from;
        round = b.round;
        after = b.after;
        before = b.before;
        here = λ place le. nothing_there (λ n. n) p t (prices_of p b.from b.round) b.after m place (none place le);
      })

      past : (d : Method) → method_at p m ≡ Some d → (place : ℕ) → length d.code ≤ place → instr_at p m place ≡ None
      past d e place le = grind (arith, nat_tests, none_given, in_code)

      go : (o : Option Method) → method_at p m ≡ o → Made p t m 0
      go None e = begin 0 (λ place le. no_method p m place e)
      go (Some d) e = begin (length d.code) (λ place le. past d e place le)

  all_below : (m : ℕ) → Below p t m
  all_below zero = record { from = λ m x. 0; round = λ m x. 0; after = λ m x. 0; before = λ k place lt. absurd (omega (arith, lt)) }
  all_below (suc m) =
      let w = method_made m (all_below m) in
      record {
        from = w.from;
        round = w.round;
        after = w.after;
        before = λ k place lt. below_next (λ x. IsSweptAt (λ n. n) p t _ _ x place) m (λ j less. w.before j place less) (w.here place (omega arith)) k lt;
      }

-- ---- the law

-- a table that the pass finds
pub record Found (p : Image) (t : Typing) : Type 0 where
  pub prices : Prices
  pub loop_exits : LoopExits
  pub swept : IsSwept p t prices loop_exits

pub found_prices : (p : Image) (t : Typing) → WellFormed p → IsLinked p → IsTyped p t → PaysBefore p t → Found p t
found_prices p t formed linked typed layered = record {
  prices = c;
  loop_exits = b.after;
  swept = record { methods = λ m. from_each (λ n. n) p t c b.after m 0 (λ place le. swept_at m place _ refl); classes = classes_of p b.from b.round };
}
  where
    b : Below p t (length p.methods)
    b = all_below p t (linked_is_looped p formed linked) typed layered (jumps_forward p linked) (length p.methods)

    c : Prices
    c = prices_of p b.from b.round

    swept_at : (m place : ℕ) (o : Option Method) → method_at p m ≡ o → IsSweptAt (λ n. n) p t c b.after m place
    swept_at m place None e = nothing_there (λ n. n) p t c b.after m place (no_method p m place e)
    swept_at m place (Some d) e = b.before m place (method_within p m d e)

-- it says the prices, and pays
abbrev pub are_prices : (p : Image) (t : Typing) → WellFormed p → IsLinked p → IsTyped p t → Found p t → HasPrices p t
are_prices p t formed linked typed f = record {
  prices = f.prices;
  are = law_is_price p t f.prices f.loop_exits formed linked typed f.swept;
  pays = law_pays p t f.prices f.loop_exits formed linked typed f.swept;
}

pub law_found : PricesAreFound
law_found p t formed linked typed layered = are_prices p t formed linked typed (found_prices p t formed linked typed layered)
