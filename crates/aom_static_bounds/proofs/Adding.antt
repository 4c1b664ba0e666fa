-- What one pass finds is the price: what a place costs in the body of the innermost loop round it, and what follows that loop, add up to what is found there.
use Rattle.std.proofs.Common.{◌≡◌, ◌<◌, ◌≤◌, ◌+◌, ◌-◌, ◌*◌, ◌∙◌, ℕ, zero, suc, Bool, true, false, cond, List, [], ◌∷◌, length, Some, None, inl, inr, ⊎_elim}
use Rattle.std.proofs.Common.{refl, sym, ap, arith, subst}
use Rattle.std.proofs.Math.Nat.{mul-le-mul_left}
use Rattle.aom_static_bounds.proofs.ImageLemmas.{some_given}
use Rattle.std.specs.Prelude.{IfSome, IsSome, max}
use Rattle.std.proofs.lemmas.Option.{slice_get_within}
use Rattle.aom_image.specs.Image.{Image}
use Rattle.aom_image.specs.Views.{instr_at, method_at}
use Rattle.aom_instructions.specs.declared.instr.Instr.{Instr}
use Rattle.aom_image.specs.declared.method.Method.{Method}
use Rattle.aom_static_bounds.proofs.LinkConditionsLemmas.{linked_is_looped, linked_place, of_method}
use Rattle.aom_link_conditions.specs.Bodies.{Body, IsLooped}
use Rattle.aom_link_conditions.specs.Linked.{IsLinked}
use Rattle.aom_link_conditions.specs.Loops.{loop_in, next_in}
use Rattle.aom_abstract_state.specs.Needs.{Flow}
use Rattle.aom_typing_rules.specs.Rules.{flows}
use Rattle.aom_abstract_state.specs.AbstractState.{AbstractState}
use Rattle.aom_typing_rules.specs.Typing.{IsTyped, Typing, shape_at}
use Rattle.aom_static_bounds.specs.Prices.{LoopStands, NextStands, Prices, Stands, own, price}
use Rattle.aom_static_bounds.specs.Costs.{AmongFlows, Costs, GoesOut, IsPrice, Region, Round, Whole}
use Rattle.aom_static_bounds.specs.Costs.Costs.{ends, goes, loops, loops_in}
use Rattle.aom_static_bounds.specs.PriceLaws.{SweptIsPrice}
use Rattle.aom_static_bounds.specs.Sweeping.{LoopExits, IsAfter, IsInnermost, after, is_past, most_within}
use Rattle.aom_static_bounds.proofs.Going.{ruled_of}
use Rattle.aom_static_bounds.proofs.At.{IsSweptAt, place_of}
use Rattle.aom_static_bounds.proofs.Paths.{GoesOn, Rounds, ends_or_goes, outside_cost, rounds_of}
use Rattle.aom_static_bounds.proofs.Regions.{by_kind, here_is_inside, innermost, innermost_first, innermost_of_body, innermost_of_next, innermost_on, innermost_out}
use Rattle.aom_instructions.specs.declared.transfer.Transfer.TheVariants.{Begin, Repeat}
use Rattle.aom_static_bounds.proofs.Regions.{BeginsLoop, EndsRound, begins_on, next_is_no_loop, repeats_costs, stands_as, instr_as, no_next_here, no_way_back, one_end, out_of_both, past_is_outside}
use Rattle.aom_static_bounds.proofs.Ways.{IsReached, JumpsForward, led_to, way_of}
use Rattle.aom_static_bounds.proofs.Among.{by_flow, either_cond, either_max}
use Rattle.aom_static_bounds.proofs.Regions.{Past, passed}
use Rattle.aom_static_bounds.proofs.Regions.Past.{past_end}

-- ---- the most over flows

pub by_past : (b : Bool) (P : Type 0) → (b ≡ true → P) → (b ≡ false → P) → P
by_past true P past near = past refl
by_past false P past near = near refl

pub within_most : (c : Prices) (m to : ℕ) (r : Region) (fs : List Flow) → AmongFlows to fs → is_past r to ≡ false → c.from m to ≤ most_within c m r fs
within_most c m to r fs among near =
    by_flow to (λ gs. c.from m to ≤ most_within c m r gs) (λ f gs e. omega (arith, this f.0 e)) (λ f gs le. omega (arith, le)) fs among
  where
    this : (x : ℕ) → x ≡ to → cond (is_past r x) 0 (c.from m x) ≡ c.from m to
    this x e = ap (λ y. cond (is_past r y) 0 (c.from m y)) e ∙ ap (λ b. cond b 0 (c.from m to)) near

-- what holds of 0 and of each flow in the region holds of the dearest
most_one : (c : Prices) (m : ℕ) (r : Region) (P : ℕ → Type 0) → P 0 → (fs : List Flow) →
    ((to : ℕ) → AmongFlows to fs → is_past r to ≡ false → P (c.from m to)) → P (most_within c m r fs)
most_one c m r P none [] one = none
most_one c m r P none (f ∷ fs) one = either_max P (cond (is_past r f.0) 0 (c.from m f.0)) (most_within c m r fs)
    (either_cond P (is_past r f.0) 0 (c.from m f.0) (λ past. none) (λ near. one f.0 (inl refl) near))
    (most_one c m r P none fs (λ to among. one to (inr among)))

-- ---- rounds

all_rounds : (n b : ℕ) → 0 < n → (n - 1) * b + b ≡ n * b
all_rounds n b some = let e : n ≡ suc (n - 1) = omega (arith, some) in omega (arith, ap (λ x. x * b) e)

-- ---- each place

pub reached_is_some : (t : Typing) (m place : ℕ) → IsReached t m place → IsSome (shape_at t m place)
reached_is_some t m place reached = subst (λ o. IsSome o) (sym reached.1) refl

-- where a reached instruction goes on is reached
pub leads_on : (p : Image) (t : Typing) (m : ℕ) → IsTyped p t → (place to : ℕ) (sh : AbstractState) (i : Instr) → Stands p t m place sh i →
    AmongFlows to (flows p m place sh i) → IsReached t m to
leads_on p t m typed place to sh i at among = grind (arith, typed.each m place sh at.shape, led_to t m to)

-- an instruction that ends no round goes on at a later place
pub goes_forward : (p : Image) (m : ℕ) → JumpsForward p m →
    (place to : ℕ) (sh : AbstractState) (i : Instr) → instr_at p m place ≡ Some i → next_in (Some i) ≡ None → AmongFlows to (flows p m place sh i) → place < to
goes_forward p m forward place to sh i stands plain among = grind (arith, way_of p m place to sh i among, no_way_back i to plain)

pub way_forward : (p : Image) (t : Typing) (m : ℕ) → JumpsForward p m →
    (place to : ℕ) (sh : AbstractState) (i : Instr) → Stands p t m place sh i → next_in (Some i) ≡ None → AmongFlows to (flows p m place sh i) → place < to
way_forward p t m forward place to sh i at plain among = goes_forward p m forward place to sh i at.instr plain among

-- the most that a place costs in a region, with what follows the region, is what is found there
record Adds (p : Image) (t : Typing) (c : Prices) (a : LoopExits) (m : ℕ) (r : Region) (place : ℕ) : Type 0 where
  pub cost : ℕ
  pub met : Costs p t c m r place cost
  pub sum : cost + after a m r ≡ c.from m place
  pub most : (k : ℕ) → Costs p t c m r place k → k ≤ cost

module _ (p : Image) (t : Typing) (c : Prices) (a : LoopExits) (m : ℕ) (looped : IsLooped p) (forward : JumpsForward p m) where
  module _ (typed : IsTyped p t) (swept : (place : ℕ) → IsSweptAt (λ n. n) p t c a m place) where
    module _ (place : ℕ) (r : Region) (w : IsInnermost p m place r)
        (later : (to : ℕ) (s : Region) → place < to → IsReached t m to → IsInnermost p m to s → Adds p t c a m s to) where
      -- ---- an instruction that begins no loop and ends no round
      module _ (sh : AbstractState) (i : Instr) (at : Stands p t m place sh i) (no_loop : loop_in (Some i) ≡ None) (no_next : next_in (Some i) ≡ None) where
        -- where it goes on in the region
        goes_on_in : (to : ℕ) → AmongFlows to (flows p m place sh i) → is_past r to ≡ false → Adds p t c a m r to
        goes_on_in to among near =
            let lt = way_forward p t m forward place to sh i at no_next among in
            let inside = here_is_inside r place to w.inside lt near in
            later to r lt (leads_on p t m typed _ to sh i at among) (innermost_on p looped m _ to i r at.instr no_loop (way_of p m _ to sh i among) w inside)

        found : c.from m place ≡ own p m c sh i + max (after a m r) (most_within c m r (flows p m place sh i))
        found = (swept place).plain sh i r at no_loop no_next w

        plain_most : (cost : ℕ) → cost + after a m r ≡ c.from m place → (k : ℕ) → Costs p t c m r place k → k ≤ cost
        plain_most cost sum k path = ⊎_elim (λ (e : k ≡ own p m c sh i). omega (arith, found, e, sum))
            (λ (g : GoesOn p t c m r place k sh i). by_past (is_past r g.to) (k ≤ cost)
            (λ past. let nothing = outside_cost p t c m r g.to g.rest g.path (past_is_outside r g.to past) in omega (arith, found, sum, g.is, nothing))
            (λ near.
            let next = goes_on_in g.to g.among near in
            let some = next.most g.rest g.path in
            omega (arith, found, sum, g.is, next.sum, some, within_most c m g.to r (flows p m place sh i) g.among near)))
            (ends_or_goes p t c m r place k path sh i at no_loop w.inside)

        plain_adds : Adds p t c a m r place
        plain_adds = either_max (λ n. c.from m place ≡ own p m c sh i + n → Adds p t c a m r place) (after a m r) (most_within c m r (flows p m place sh i))
            (λ is. stops (omega (arith, is)))
            (most_one c m r (λ n. c.from m place ≡ own p m c sh i + n → Adds p t c a m r place) (λ is. stops (omega (arith, is, found))) _ on) found
          where
            stops : own p m c sh i + after a m r ≡ c.from m place → Adds p t c a m r place
            stops sum = record { cost = own p m c sh i; met = ends w.inside at no_loop; sum = sum; most = plain_most (own p m c sh i) sum }

            on : (to : ℕ) → AmongFlows to (flows p m place sh i) → is_past r to ≡ false → c.from m place ≡ own p m c sh i + c.from m to → Adds p t c a m r place
            on to among near is =
                let next = goes_on_in to among near in
                let sum : own p m c sh i + next.cost + after a m r ≡ c.from m place = omega (arith, is, next.sum) in
                record { cost = own p m c sh i + next.cost; met = goes w.inside at no_loop no_next among next.met; sum = sum; most = plain_most _ sum }

      -- ---- a loop
      module _ (sh : AbstractState) (d n to : ℕ) (at : LoopStands p t m place sh d n) (some : 0 < n) (body : Body p m place to d n) where
        reached : IsReached t m (suc place)
        reached = let i = instr_as p t m place sh (Begin d n) at in leads_on p t m typed place (suc place) sh i.0 i.1 (begins_on p t m place sh i.0 d n i.2)

        round : Adds p t c a m (Round place to) (suc place)
        round = later (suc place) (Round place to) (omega arith) reached (innermost_of_body p looped m place to d n body)

        is_round : round.cost ≡ c.round m place
        is_round = let e = (swept place).rounds to d n body (reached_is_some t m (suc place) reached) in omega (arith, e, round.sum)

        -- all rounds, and what follows the loop
        found_loop : 1 + n * round.cost + a m place ≡ c.from m place
        found_loop =
            let e = (swept place).loops d n sh at in
            let all = all_rounds n round.cost some in
            let same : (n - 1) * c.round m place ≡ (n - 1) * round.cost = ap (λ x. (n - 1) * x) (sym is_round) in
            omega (arith, e, all, same, round.sum)

        goes_out_in : (out : ℕ) → GoesOut p t m place to out → is_past r out ≡ false → Adds p t c a m r out
        goes_out_in out g near =
            let lt : place < out = omega (arith, body.later, g.outside) in
            let inside = here_is_inside r place out w.inside lt near in
            later out r lt (leads_on p t m typed g.place out g.shape g.instr g.stands g.flow) (innermost_out p looped m t place to d n out r body g w inside)

        -- what follows the region is no more than what follows the loop, and an exit from both is no more than the first
        follows : IsAfter p t c a m place to r
        follows = (swept to).loop_exits place d n r body w

        out_of_region : (out : ℕ) → GoesOut p t m place to out → is_past r out ≡ true → c.from m out ≤ after a m r
        out_of_region out g is = go r w (passed r out is)
          where
            go : (s : Region) → IsInnermost p m place s → Past out s → c.from m out ≤ after a m s
            go _ v (past_end f e after) =
                let round_it = innermost p looped m f in
                ((swept e).loop_exits f v.body.0 v.body.1 round_it.0 v.body.2 round_it.1).out out (out_of_both p looped m t place to d n out f e body g v after)

        loop_most : (cost : ℕ) → cost + after a m r ≡ c.from m place → (k : ℕ) → Costs p t c m r place k → k ≤ cost
        loop_most cost sum k path = go (rounds_of p t c m r place k path sh d n at w.inside)
          where
            rest_of : (out e x : ℕ) → GoesOut p t m place to out → Costs p t c m r out e → k ≡ 1 + x + e → x ≤ n * round.cost → k ≤ cost
            rest_of out e x g rest is le = by_past (is_past r out) (k ≤ cost) (λ past. let nothing = outside_cost p t c m r out e rest
                (past_is_outside r out past) in omega (arith, found_loop, sum, is, le, nothing, follows.around)) (λ near. let next = goes_out_in out g near in
                omega (arith, found_loop, sum, is, le, next.sum, next.most e rest, follows.out out g))

            go : Rounds p t c m r place k d n → k ≤ cost
            go v =
                let same = one_end p looped m place to v.to d n d n body v.body in
                let less = round.most v.round (subst (λ x. Costs p t c m (Round place x) (suc place) v.round) same v.path) in
                let all = mul-le-mul_left n less in
                ⊎_elim (λ (is : k ≡ 1 + n * v.round). omega (arith, found_loop, sum, is, all, follows.around))
                (λ (x : (out : ℕ) × (e : ℕ) × GoesOut p t m place v.to out × Costs p t c m r out e × (k ≡ 1 + n * v.round + e)).
                rest_of x.0 x.1 (n * v.round) (subst (λ y. GoesOut p t m place y x.0) same x.2) x.3 x.4 all)
                v.rest

        -- nothing of the region comes after the loop
        alone : a m place ≡ after a m r → Adds p t c a m r place
        alone e =
            let sum : 1 + n * round.cost + after a m r ≡ c.from m place = omega (arith, found_loop, e) in
            record { cost = 1 + n * round.cost; met = loops_in w.inside at body round.met; sum = sum; most = loop_most (1 + n * round.cost) sum }

        loop_adds : Adds p t c a m r place
        loop_adds = ⊎_elim alone
            (λ (x : (out : ℕ) × GoesOut p t m place to out × (c.from m out ≡ a m place)). by_past (is_past r x.0) (Adds p t c a m r place)
            (λ past. alone (omega (arith, follows.around, out_of_region x.0 x.1 past, x.2))) (λ near.
            let next = goes_out_in x.0 x.1 near in
            let sum : 1 + n * round.cost + next.cost + after a m r ≡ c.from m place = omega (arith, found_loop, next.sum, x.2) in
            record { cost = 1 + n * round.cost + next.cost; met = loops w.inside at body round.met x.1 next.met; sum = sum; most = loop_most _ sum }))
            follows.met

      -- ---- the end of a round
      module _ (sh : AbstractState) (d from n : ℕ) (at : NextStands p t m place sh d (suc from)) (body : Body p m from place d n) where
        after_own : after a m r ≡ a m from
        after_own = let own_body = innermost_of_next p looped m place d from n r at.goes body w in ap (λ x. after a m x) own_body.1

        next_adds : Adds p t c a m r place
        next_adds =
            let i = instr_as p t m place sh (Repeat d (suc from)) at in
            let none = next_is_no_loop i.0 d (suc from) i.2 in
            let found = (swept place).next_places d from sh at in
            let one = repeats_costs p t m place sh c i.0 d (suc from) i.2 in
            record {
              cost = own p m c sh i.0;
              met = ends w.inside i.1 none;
              sum = omega (arith, found, after_own, one);
              most = λ k path. ⊎_elim (λ (stops : k ≡ own p m c sh i.0). omega (arith, stops))
                  (λ (on : GoesOn p t c m r place k sh i.0). absurd (no_next_here i.0 d (suc from) on.plain i.2))
                  (ends_or_goes p t c m r place k path sh i.0 i.1 none w.inside);
            }

      -- ---- any
      place_adds : (sh : AbstractState) (i : Instr) → Stands p t m place sh i → Adds p t c a m r place
      place_adds sh i at = by_kind (Adds p t c a m r place) i (λ l n. plain_adds sh i at l n) loop next
        where
          loop : (d n : ℕ) → BeginsLoop i d n → Adds p t c a m r place
          loop d n is =
              let here = stands_as p t m place sh (Begin d n) i at is in
              let b = looped.begins m place d n here.goes in
              loop_adds sh d n b.1 here b.0 b.2

          next : (d to : ℕ) → EndsRound i d to → Adds p t c a m r place
          next d to is =
              let here = stands_as p t m place sh (Repeat d to) i at is in
              let closes = looped.closes m place d to here.goes in
              next_adds sh d closes.0 closes.1 (subst (λ x. NextStands p t m place sh d x) closes.3 here) closes.2

    -- from the last place down
    adds_from : (count : ℕ) → ((place : ℕ) (i : Instr) → instr_at p m place ≡ Some i → place < count) →
        (left place : ℕ) (r : Region) → count ≤ place + left → IsReached t m place → IsInnermost p m place r → Adds p t c a m r place
    adds_from count within zero place r few reached w = grind (arith, typed.each m place reached.0 reached.1)
    adds_from count within (suc left) place r few reached w =
        let passes = typed.each m place reached.0 reached.1 in
        place_adds place r w (λ to s lt there v. adds_from count within left to s (omega (arith, few, lt)) there v) reached.0 passes.instr
        (record { shape = reached.1; instr = passes.stands })

    priced_from : (count : ℕ) → ((place : ℕ) (i : Instr) → instr_at p m place ≡ Some i → place < count) → IsReached t m 0 → IsPrice p t c m (price c m)
    priced_from count within reached =
        let w = adds_from count within count 0 Whole (omega arith) reached (innermost_first p looped m) in
        let same : w.cost ≡ price c m = omega (arith, w.sum) in
        record { met = subst (λ x. Costs p t c m Whole 0 x) same w.met; most = λ k path. omega (arith, same, w.most k path) }

-- ---- the law

pub jumps_forward : (p : Image) → IsLinked p → (m : ℕ) → JumpsForward p m
jumps_forward p linked m place to i at j =
    let w = of_method p m place i at in
    let keeps = linked_place p m place w.0 i linked w.1 w.2 in
    subst (λ o. IfSome o (λ x. place < x)) j keeps.forward

pub in_code : (p : Image) (m : ℕ) (d : Method) → method_at p m ≡ Some d → (place : ℕ) (i : Instr) → instr_at p m place ≡ Some i → place < length d.code
in_code p m d here place i at = grind (arith, of_method p m place i at, slice_get_within d.code place i)

pub law_is_price : SweptIsPrice
law_is_price p t c a formed linked typed swept = record { methods = methods; classes = ruled_of p formed linked c swept.classes }
  where
    methods : (m : ℕ) → IsSome (method_at p m) → IsPrice p t c m (price c m)
    methods m some = some_given (λ o. IsSome o) (method_at p m) some (λ s. cc) (λ d e s.
        let begins = typed.entry m some in
        priced_from p t c a m (linked_is_looped p formed linked) (jumps_forward p linked m) typed (place_of (λ n. n) p t c a swept m) (length d.code)
        (in_code p m d e) (begins.0, begins.1))
