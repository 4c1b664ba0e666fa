-- What one pass finds pays for each move.
use Rattle.std.proofs.Common.{◌≡◌, ◌≤◌, ◌+◌, ℕ, suc, true, List, [], ◌∷◌, Some, None, inl, inr, refl, ap, arith, subst}
use Rattle.aom_image.specs.Image.{Image}
use Rattle.aom_image.specs.WellFormed.{WellFormed}
use Rattle.aom_instructions.specs.declared.instr.Instr.{Instr}
use Rattle.aom_image.specs.declared.method.Thing.{Thing}
use Rattle.aom_image.specs.declared.method.Thing.TheVariants.{Object}
use Rattle.aom_static_bounds.proofs.LinkConditionsLemmas.{linked_is_looped}
use Rattle.aom_link_conditions.specs.Bodies.{Body, IsLooped}
use Rattle.aom_link_conditions.specs.Linked.{IsLinked}
use Rattle.aom_link_conditions.specs.Loops.{loop_in, next_in}
use Rattle.aom_abstract_state.specs.Needs.{Flow}
use Rattle.aom_typing_rules.specs.Rules.{flows}
use Rattle.aom_abstract_state.specs.AbstractState.{AbstractState}
use Rattle.aom_typing_rules.specs.Typing.{IsTyped, Typing}
use Rattle.aom_static_bounds.specs.Prices.{AllPaid, IsPriced, NextStands, Prices, Stands, own, perhaps_price, sessions_cost}
use Rattle.aom_static_bounds.specs.Costs.{AmongFlows, Region}
use Rattle.aom_static_bounds.specs.Most.{line, most_standing}
use Rattle.aom_static_bounds.proofs.Maxima.{most_stands_in}
use Rattle.aom_static_bounds.specs.PriceLaws.{SweptPays}
use Rattle.aom_static_bounds.specs.Sweeping.{LoopExits, IsInnermost, IsSwept, after, is_past}
use Rattle.aom_static_bounds.proofs.At.{place_of}
use Rattle.aom_static_bounds.proofs.Going.{by_rule, ruled_of}
use Rattle.aom_static_bounds.proofs.Adding.{by_past, leads_on, reached_is_some, within_most}
use Rattle.aom_instructions.specs.declared.transfer.Transfer.TheVariants.{Begin, Repeat}
use Rattle.aom_static_bounds.proofs.Regions.{BeginsLoop, EndsRound, begins_costs, by_kind, innermost, repeats_at, repeats_costs, repeats_on, stands_as, instr_as}
use Rattle.aom_static_bounds.proofs.Ways.{IsReached}
use Rattle.aom_static_bounds.proofs.Regions.{Past, passed}
use Rattle.aom_static_bounds.proofs.Regions.Past.{past_end}

-- each flow is paid for that costs no more than what is left
each_paid : (c : Prices) (m pays here : ℕ) (fs : List Flow) → ((to : ℕ) → AmongFlows to fs → pays + c.from m to ≤ here) → AllPaid c m pays here fs
each_paid c m pays here [] paid = tt
each_paid c m pays here (f ∷ fs) paid = (paid f.0 (inl refl), each_paid c m pays here fs (λ to among. paid to (inr among)))

at_most : (x y : ℕ) → y ≡ x → x ≤ y
at_most x y e = omega (arith, e)

module _ (p : Image) (t : Typing) (c : Prices) (a : LoopExits) (looped : IsLooped p) (formed : WellFormed p) (linked : IsLinked p) (typed : IsTyped p t)
    (swept : IsSwept p t c a) where
  -- what a region goes out to is paid for by what follows it
  out_paid : (m place to : ℕ) (sh : AbstractState) (i : Instr) (r : Region) → Stands p t m place sh i → AmongFlows to (flows p m place sh i) → IsInnermost p m place r →
      is_past r to ≡ true → c.from m to ≤ after a m r
  out_paid m place to sh i r at among w is = go r w (passed r to is)
    where
      go : (s : Region) → IsInnermost p m place s → Past to s → c.from m to ≤ after a m s
      go _ v (past_end f e after) =
          let round_it = innermost p looped m f in
          ((place_of (λ n. n) p t c a swept m e).loop_exits f v.body.0 v.body.1 round_it.0 v.body.2 round_it.1).out to
          (record { place = place; inside = v.inside; shape = sh; instr = i; stands = at; flow = among; outside = after })

  flows_paid : (m place : ℕ) (sh : AbstractState) (i : Instr) →
      Stands p t m place sh i → loop_in (Some i) ≡ None → next_in (Some i) ≡ None → AllPaid c m (own p m c sh i) (c.from m place) (flows p m place sh i)
  flows_paid m place sh i at l n = each_paid c m (own p m c sh i) (c.from m place) (flows p m place sh i) paid
    where
      paid_in : (r : Region) → IsInnermost p m place r → (to : ℕ) → AmongFlows to (flows p m place sh i) → own p m c sh i + c.from m to ≤ c.from m place
      paid_in r w to among =
          let found = (place_of (λ n. n) p t c a swept m place).plain sh i r at l n w in
          by_past (is_past r to) (own p m c sh i + c.from m to ≤ c.from m place) (λ past. omega (arith, found, out_paid m place to sh i r at among w past))
          (λ near. omega (arith, found, within_most c m to r (flows p m place sh i) among near))

      paid : (to : ℕ) → AmongFlows to (flows p m place sh i) → own p m c sh i + c.from m to ≤ c.from m place
      paid to among = let w = innermost p looped m place in paid_in w.0 w.1 to among

  -- a next and its loop
  module _ (m place d to : ℕ) (sh : AbstractState) (at : NextStands p t m place sh d to) where
    closing : (from : ℕ) × (n : ℕ) × Body p m from place d n × (to ≡ suc from)
    closing = looped.closes m place d to at.goes

    found : c.from m place ≡ 1 + a m closing.0
    found = (place_of (λ n. n) p t c a swept m place).next_places d closing.0 sh (subst (λ x. NextStands p t m place sh d x) closing.3 at)

    on_paid : 1 + c.from m (suc place) ≤ c.from m place
    on_paid =
        let i = instr_as p t m place sh (Repeat d to) at in
        let round_it = innermost p looped m closing.0 in
        let out = ((place_of (λ n. n) p t c a swept m place).loop_exits closing.0 d closing.1 round_it.0 closing.2 round_it.1).out (suc place)
        (record {
          place = place;
          inside = (closing.2.later, omega arith);
          shape = sh;
          instr = i.0;
          stands = i.1;
          flow = repeats_on p t m place sh i.0 d to i.2;
          outside = omega arith;
        }) in
        omega (arith, found, out)

    round_paid : 1 + c.from m to ≤ c.from m place + c.round m closing.0
    round_paid =
        let i = instr_as p t m place sh (Repeat d to) at in
        let reached = leads_on p t m typed place to sh i.0 i.1 (repeats_at p t m place sh i.0 d to i.2) in
        let there = subst (λ x. IsReached t m x) closing.3 reached in
        let round = (place_of (λ n. n) p t c a swept m closing.0).rounds place d closing.1 closing.2 (reached_is_some t m (suc closing.0) there) in
        let e = ap (λ x. c.from m x) closing.3 in
        omega (arith, found, round, e)

  rounds_paid : (m place d from : ℕ) (sh : AbstractState) → NextStands p t m place sh d (suc from) → 1 + c.from m (suc from) ≤ c.from m place + c.round m from
  rounds_paid m place d from sh at =
      let w = closing m place d (suc from) sh at in
      let same : w.0 ≡ from = omega (arith, w.3) in
      let e = ap (λ x. c.round m x) same in
      omega (arith, round_paid m place d (suc from) sh at, e)

  ends_paid : (m place : ℕ) (sh : AbstractState) (i : Instr) → Stands p t m place sh i → own p m c sh i ≤ c.from m place
  ends_paid m place sh i at = by_kind (own p m c sh i ≤ c.from m place) i plain loop next
    where
      plain : loop_in (Some i) ≡ None → next_in (Some i) ≡ None → own p m c sh i ≤ c.from m place
      plain l n = let w = innermost p looped m place in omega (arith, (place_of (λ n. n) p t c a swept m place).plain sh i w.0 at l n w.1)

      loop : (d n : ℕ) → BeginsLoop i d n → own p m c sh i ≤ c.from m place
      loop d n is =
          let found = (place_of (λ n. n) p t c a swept m place).loops d n sh (stands_as p t m place sh (Begin d n) i at is) in
          omega (arith, found, begins_costs p t m place sh c i d n is)

      next : (d to : ℕ) → EndsRound i d to → own p m c sh i ≤ c.from m place
      next d to is = omega (arith, on_paid m place d to sh (stands_as p t m place sh (Repeat d to) i at is), repeats_costs p t m place sh c i d to is)

  ruled : (x : Thing) → c.destruction x ≡ most_standing p (by_rule p c) x
  ruled = ruled_of p formed linked c swept.classes

  lines_paid : (x : Thing) → 1 + line p (perhaps_price c) x + sessions_cost p (λ k. c.destruction (Object k)) x ≤ c.destruction x
  lines_paid x = grind (arith, ruled x)

  priced : IsPriced p t c
  priced = record {
    ends = ends_paid;
    flows = flows_paid;
    loops = λ m place d n sh at. at_most _ _ ((place_of (λ n. n) p t c a swept m place).loops d n sh at);
    next_places = on_paid;
    rounds = rounds_paid;
    lines = lines_paid;
    may_override = λ x y e. let most = most_stands_in p (by_rule p c) x y e in omega (arith, ruled x, ruled y, most);
  }

pub law_pays : SweptPays
law_pays p t c a formed linked typed swept = priced p t c a (linked_is_looped p formed linked) formed linked typed swept
