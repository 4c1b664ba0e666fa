-- What one pass finds with each sum kept up to a limit is, up to the limit, what it finds with whole sums.
use Rattle.std.proofs.lemmas.Bool.Decides.{nat_tests}
use Rattle.std.proofs.Common.{◌≡◌, ◌<◌, ◌≤◌, ◌∙◌, ℕ, zero, suc, length, Some, None, ⊎_elim, refl, sym, ap, arith, subst}
use Rattle.aom_static_bounds.proofs.ImageLemmas.{transfer_there}
use Rattle.aom_static_bounds.proofs.ImageLemmas.{some_given}
use Rattle.std.specs.Prelude.{IsSome, max, min}
use Rattle.std.proofs.lemmas.Bool.{cases_lt}
use Rattle.aom_image.specs.Image.{Image}
use Rattle.aom_image.specs.Views.{instr_at, method_at}
use Rattle.aom_instructions.specs.declared.instr.Instr.{Instr}
use Rattle.aom_static_bounds.proofs.LinkConditionsLemmas.{linked_is_looped}
use Rattle.aom_link_conditions.specs.Bodies.{Body, IsLooped}
use Rattle.aom_link_conditions.specs.Loops.{loop_in, next_in}
use Rattle.aom_typing_rules.specs.Rules.{flows}
use Rattle.aom_abstract_state.specs.AbstractState.{AbstractState}
use Rattle.aom_typing_rules.specs.Typing.{IsTyped, Passes, Typing, shape_at}
use Rattle.aom_static_bounds.specs.Prices.{NextStands, Prices, Stands, own, price}
use Rattle.aom_static_bounds.specs.Costs.{GoesOut, Region, Round, Whole, destructor_price}
use Rattle.aom_static_bounds.specs.PriceLaws.{SweptUpToIsPrice}
use Rattle.aom_static_bounds.specs.Layers.{Pays, PaysBefore}
use Rattle.aom_static_bounds.specs.Sweeping.{LoopExits, IsAfter, IsInnermost, IsSwept, IsSweptUpTo, after, most_within}
use Rattle.aom_static_bounds.proofs.At.{place_of}
use Rattle.aom_static_bounds.proofs.Adding.{in_code, jumps_forward, leads_on, reached_is_some, way_forward}
use Rattle.aom_static_bounds.proofs.Capped.{Alike, alike_kept, alike_loop, alike_max, alike_plus}
use Rattle.aom_static_bounds.proofs.Going.{going_alike}
use Rattle.aom_static_bounds.proofs.Making.{Found, are_prices, found_prices}
use Rattle.aom_static_bounds.proofs.Methods.{destructs_within}
use Rattle.aom_static_bounds.proofs.Typings.{method_within, within_method}
use Rattle.aom_instructions.specs.declared.transfer.Transfer.TheVariants.{Begin, Repeat}
use Rattle.aom_static_bounds.proofs.Regions.{BeginsLoop, EndsRound, begins_on, by_kind, ends_after, innermost, stands_as}
use Rattle.aom_static_bounds.proofs.Related.{most_related, own_related}
use Rattle.aom_static_bounds.proofs.Ways.{IsReached, JumpsForward}
use Rattle.aom_static_bounds.proofs.Among.{each_below}

-- what follows a loop is no more, up to the limit, than what the other table says
follow_below : (limit : ℕ) (p : Image) (t : Typing) (c e : Prices) (a b : LoopExits) (m from to : ℕ) (r : Region) →
    IsAfter p t c a m from to r → IsAfter p t e b m from to r → Alike limit (after a m r) (after b m r) →
    ((place : ℕ) → GoesOut p t m from to place → Alike limit (c.from m place) (e.from m place)) → min limit (a m from) ≤ min limit (b m from)
follow_below limit p t c e a b m from to r one other around out = grind (arith, nat_tests)

module _ (limit : ℕ) (p : Image) (t : Typing) (looped : IsLooped p) (typed : IsTyped p t) (layered : PaysBefore p t) (forward : (m : ℕ) → JumpsForward p m)
    (c e : Prices) (a b : LoopExits) (capped : IsSweptUpTo limit p t c a) (whole : IsSwept p t e b) where
  module _ (m : ℕ) (before : (k : ℕ) → k < m → Alike limit (price c k) (price e k)) where
    -- what an instruction costs itself
    own_alike : (sh : AbstractState) (i : Instr) → ((k : ℕ) → Pays p m sh i k → k < m) → Alike limit (own p m c sh i) (own p m e sh i)
    own_alike sh i below = own_related (λ x y. Alike limit x y) refl p c e (λ x y same. alike_plus limit 1 1 x y refl same) (alike_max limit)
        (λ x h. omega (arith, capped.classes x, whole.classes x, going_alike limit p (destructor_price c) (destructor_price e) refl x h)) m sh i
        (λ k paid. before k (below k paid))

    -- ---- a place

    -- from a place on
    record Agrees (down : ℕ) : Type 0 where
      pub from : (place : ℕ) → down ≤ place → IsReached t m place → Alike limit (c.from m place) (e.from m place)
      pub after : (from to d n : ℕ) → down ≤ to → Body p m from to d n → Alike limit (a m from) (b m from)

    module _ (k : ℕ) (later : Agrees (suc k)) where
      exit_alike : (from d n to : ℕ) → Body p m from k d n → GoesOut p t m from k to → Alike limit (c.from m to) (e.from m to)
      exit_alike from d n to body g = let past = g.outside in later.from to (omega (arith, past)) (leads_on p t m typed _ to g.shape g.instr g.stands g.flow)

      round_it_alike : (from d n : ℕ) (r : Region) → Body p m from k d n → IsInnermost p m from r → Alike limit (after a m r) (after b m r)
      round_it_alike from d n Whole body w = refl
      round_it_alike from d n (Round f g) body w =
          let ends = ends_after p looped m from k d n f g w.body.0 w.body.1 body w.body.2 w.inside in
          later.after f g w.body.0 w.body.1 (omega (arith, ends)) w.body.2

      follow_alike : (from d n : ℕ) → Body p m from k d n → Alike limit (a m from) (b m from)
      follow_alike from d n body =
          let region = innermost p looped m from in
          let one = (place_of (λ n. min limit n) p t c a capped m k).loop_exits from d n region.0 body region.1 in
          let other = (place_of (λ n. n) p t e b whole m k).loop_exits from d n region.0 body region.1 in
          let around = round_it_alike from d n region.0 body region.1 in
          let up = follow_below limit p t c e a b m from k region.0 one other around (λ to g. exit_alike from d n to body g) in
          let down = follow_below limit p t e c b a m from k region.0 other one (sym around) (λ to g. sym (exit_alike from d n to body g)) in
          omega (arith, up, down)

      after_alike : (from to d n : ℕ) → k ≤ to → Body p m from to d n → Alike limit (a m from) (b m from)
      after_alike from to d n le body = ⊎_elim (λ (lt : k < to). later.after from to d n (omega (arith, lt)) body)
          (λ (ge : to ≤ k). let same : to ≡ k = omega (arith, ge, le) in follow_alike from d n (subst (λ x. Body p m from x d n) same body)) (cases_lt k to)

      region_alike : (r : Region) → IsInnermost p m k r → Alike limit (after a m r) (after b m r)
      region_alike Whole w = refl
      region_alike (Round f g) w = after_alike f g w.body.0 w.body.1 w.inside.1 w.body.2

      place_alike : (sh : AbstractState) (i : Instr) → Stands p t m k sh i → Alike limit (c.from m k) (e.from m k)
      place_alike sh i at = by_kind (Alike limit (c.from m k) (e.from m k)) i plain loop next
        where
          plain : loop_in (Some i) ≡ None → next_in (Some i) ≡ None → Alike limit (c.from m k) (e.from m k)
          plain l n =
              let region = innermost p looped m k in
              let one = (place_of (λ n. min limit n) p t c a capped m k).plain sh i region.0 at l n region.1 in
              let other = (place_of (λ n. n) p t e b whole m k).plain sh i region.0 at l n region.1 in
              let owned = own_alike sh i (λ j paid. layered.each m k j sh i at paid) in
              let on = most_related (λ x y. Alike limit x y) refl p c e (λ x y z w one other. alike_max limit x y z w one other) m region.0 (flows p m k sh i)
              (λ to among. later.from to (way_forward p t m (forward m) k to sh i at n among) (leads_on p t m typed k to sh i at among)) in
              let most = alike_max limit (after a m region.0) (after b m region.0)
              (most_within c m region.0 (flows p m k sh i)) (most_within e m region.0 (flows p m k sh i)) (region_alike region.0 region.1) on in
              let sums = alike_plus limit (own p m c sh i) (own p m e sh i) (max (after a m region.0) (most_within c m region.0 (flows p m k sh i)))
              (max (after b m region.0) (most_within e m region.0 (flows p m k sh i))) owned most in
              ap (λ x. min limit x) one ∙ (alike_kept limit _ ∙ (sums ∙ ap (λ x. min limit x) (sym other)))

          loop : (d n : ℕ) → BeginsLoop i d n → Alike limit (c.from m k) (e.from m k)
          loop d n same =
              let here = stands_as p t m k sh (Begin d n) i at same in
              let begins = looped.begins m k d n here.goes in
              let body = begins.2 in
              let next = leads_on p t m typed k (suc k) sh i at (begins_on p t m k sh i d n same) in
              let some = reached_is_some t m (suc k) next in
              let one = (place_of (λ n. min limit n) p t c a capped m k).loops d n sh here in
              let other = (place_of (λ n. n) p t e b whole m k).loops d n sh here in
              let first = later.from (suc k) (omega arith) next in
              let follows = later.after k begins.1 d n (omega (arith, body.later)) body in
              let sums = alike_loop limit n (c.from m (suc k)) (e.from m (suc k)) (c.round m k) (e.round m k) (a m k) (b m k) first follows
              ((place_of (λ n. min _ n) p t c a capped m k).rounds _ d n body some) ((place_of (λ n. n) p t e b whole m k).rounds begins.1 d n body some) in
              ap (λ x. min limit x) one ∙ (alike_kept limit _ ∙ (sums ∙ ap (λ x. min limit x) (sym other)))

          next : (d to : ℕ) → EndsRound i d to → Alike limit (c.from m k) (e.from m k)
          next d to same =
              let here = stands_as p t m k sh (Repeat d to) i at same in
              let closes = looped.closes m k d to here.goes in
              let there = subst (λ x. NextStands p t m k sh d x) closes.3 here in
              let one = (place_of (λ n. min limit n) p t c a capped m k).next_places d closes.0 sh there in
              let other = (place_of (λ n. n) p t e b whole m k).next_places d closes.0 sh there in
              let follows = follow_alike closes.0 d closes.1 closes.2 in
              omega (arith, one, other, follows)

      agrees_more : Agrees k
      agrees_more = record {
        from = λ place le reached. ⊎_elim (λ (lt : k < place). later.from place (omega (arith, lt)) reached) (λ (ge : place ≤ k).
            let same : place ≡ k = omega (arith, ge, le) in
            let here = subst (λ x. IsReached t m x) same reached in
            let passes = typed.each m k here.0 here.1 in
            subst (λ x. Alike limit (c.from m x) (e.from m x)) (sym same) (place_alike here.0 passes.instr (record { shape = here.1; instr = passes.stands })))
            (cases_lt k place);
        after = after_alike;
      }

    agrees_down : (k : ℕ) → Agrees k → Agrees 0
    agrees_down zero w = w
    agrees_down (suc k) w = agrees_down k (agrees_more k w)

    agrees_from : (count : ℕ) → ((place : ℕ) (i : Instr) → instr_at p m place ≡ Some i → place < count) → Agrees 0
    agrees_from count within = agrees_down count (record {
      from = λ place le reached. let passes = typed.each m place reached.0 reached.1 in absurd (omega (arith, le, within place passes.instr passes.stands));
      after = λ from to d n le body. let next = transfer_there (instr_at p m to) _ body.ends in absurd (omega (arith, le, within to next.0 next.1));
    })

  -- ---- the methods

  method_alike : (m : ℕ) → IsSome (method_at p m) → ((k : ℕ) → k < m → Alike limit (price c k) (price e k)) → Alike limit (price c m) (price e m)
  method_alike m some before = some_given (λ o. IsSome o) (method_at p m) some (λ s. cc) (λ d here s.
      let begins = typed.entry m some in
      (agrees_from m before (length d.code) (in_code p m d here)).from 0 (omega arith) (begins.0, begins.1))

  all_alike : (k : ℕ) → k < length p.methods → Alike limit (price c k) (price e k)
  all_alike = each_below (λ j. Alike limit (price c j) (price e j)) (length p.methods) (λ j lt before. method_alike j (within_method p j lt) before)

  -- ---- a kept number is no more than the limit

  kept_within : (m : ℕ) → IsSome (method_at p m) → price c m ≤ limit
  kept_within m some = go (typed.entry m some).0 (typed.entry m some).1
    where
      kept : (x y : ℕ) → x ≡ min limit y → x ≤ limit
      kept x y e = omega (arith, e)

      go : (sh : AbstractState) → shape_at t m 0 ≡ Some sh → price c m ≤ limit
      go sh reached = by_kind (price c m ≤ limit) passes.instr plain loop next
        where
          passes : Passes p t m 0 sh
          passes = typed.each m 0 sh reached

          at : Stands p t m 0 sh passes.instr
          at = record { shape = reached; instr = passes.stands }

          plain : loop_in (Some passes.instr) ≡ None → next_in (Some passes.instr) ≡ None → price c m ≤ limit
          plain l n = let region = innermost p looped m 0 in kept _ _ ((place_of (λ n. min limit n) p t c a capped m 0).plain sh _ region.0 at l n region.1)

          loop : (d n : ℕ) → BeginsLoop passes.instr d n → price c m ≤ limit
          loop d n same = kept _ _ ((place_of (λ n. min limit n) p t c a capped m 0).loops d n sh (stands_as p t m 0 sh (Begin d n) passes.instr at same))

          next : (d to : ℕ) → EndsRound passes.instr d to → price c m ≤ limit
          next d to same =
              let here = stands_as p t m 0 sh (Repeat d to) passes.instr at same in
              let closes = looped.closes m 0 d to here.goes in
              absurd (omega (arith, closes.2.later))

-- ---- the law

pub law_up_to : SweptUpToIsPrice
law_up_to limit p t c a formed linked typed layered capped = record {
  whole = are_prices p t formed linked typed exact;
  methods = λ m some.
      let kept = kept_within limit p t looped typed layered forward c exact.prices a exact.loop_exits capped exact.swept m some in
      let same = alike m (method_within p m some) in
      omega (arith, kept, same);
  classes = λ x. omega (
    arith,
    capped.classes x,
    exact.swept.classes x,
    going_alike limit p (destructor_price c) (destructor_price exact.prices) refl x (λ k runs. alike k (destructs_within p x k runs)),
  );
}
  where
    looped : IsLooped p
    looped = linked_is_looped p formed linked

    forward : (m : ℕ) → JumpsForward p m
    forward = jumps_forward p linked

    exact : Found p t
    exact = found_prices p t formed linked typed layered

    alike : (m : ℕ) → m < length p.methods → Alike limit (price c m) (price exact.prices m)
    alike m lt = all_alike limit p t looped typed layered forward c exact.prices a exact.loop_exits capped exact.swept m lt
