-- Typings that say the same of each place have the same prices.
use Rattle.std.proofs.lemmas.Bool.Decides.{nat_tests}
use Rattle.std.proofs.lemmas.Option.{same_Some}
use Rattle.std.proofs.Common.{arith, ◌≡◌, ◌+◌, ◌∙◌, ℕ, suc, List, [], ◌∷◌, inl, inr, refl, subst}
use Rattle.aom_image.specs.Image.{Image}
use Rattle.aom_instructions.specs.declared.instr.Instr.{Instr}
use Rattle.aom_roles.specs.Tests.{AllTrue}
use Rattle.aom_abstract_state.specs.Kinds.{register}
use Rattle.aom_typing_rules.specs.Laws.{AllFollow, Follows}
use Rattle.aom_abstract_state.specs.Needs.{Flow}
use Rattle.aom_abstract_state.specs.Order.{IsImpliedBy, Weaker}
use Rattle.aom_abstract_state.specs.Order.Weaker.{alike}
use Rattle.aom_typing_rules.specs.Rules.{flows, rule_needs}
use Rattle.aom_abstract_state.specs.AbstractState.{AbstractState}
use Rattle.aom_typing_rules.specs.Typing.{IsTyped, Typing}
use Rattle.aom_abstract_state.specs.declared.kind.Kind.{Kind}
use Rattle.aom_instructions.specs.declared.transfer.Transfer.TheVariants.{Begin}
use Rattle.aom_static_bounds.proofs.Regions.{stands_as, instr_as}
use Rattle.aom_static_bounds.proofs.TypingRulesLemmas.{flows_more}
use Rattle.aom_static_bounds.specs.Costs.{AmongFlows, ArePrices, Costs, GoesOut, Region}
use Rattle.aom_static_bounds.specs.Costs.Costs.{outside, ends, goes, loops, loops_in}
use Rattle.aom_static_bounds.specs.Prices.{Prices, Stands, own}
use Rattle.aom_static_bounds.proofs.Among.{by_flow}

-- what one typing reaches the other reaches too, with a state that says just as much
pub record IsCovered (p : Image) (t d : Typing) : Type 0 where
  pub each : (m place : ℕ) (sh : AbstractState) (i : Instr) → Stands p t m place sh i →
      (other : AbstractState) × Stands p d m place other i × IsImpliedBy other sh × IsImpliedBy sh other

pub kind_is : (k l : Kind) → Weaker k l → Weaker l k → k ≡ l
kind_is _ _ alike back = refl
kind_is _ _ _ back = elim back [ ]

register_is : (a b : AbstractState) (r : ℕ) → IsImpliedBy a b → IsImpliedBy b a → register a r ≡ register b r
register_is a b r more less = kind_is (register a r) (register b r) (more.registers r) (less.registers r)

-- an instruction costs itself the same
own_is : (p : Image) (m : ℕ) (c : Prices) (a b : AbstractState) (i : Instr) → IsImpliedBy a b → IsImpliedBy b a → own p m c a i ≡ own p m c b i
own_is p m c a b x more less = grind (arith, nat_tests, register_is a b)

-- where the second list leads the first does
leads : (to : ℕ) (xs ys : List Flow) → AllFollow xs ys → AmongFlows to ys → AmongFlows to xs
leads to xs ys all among = by_flow to (λ zs. AllFollow xs zs → AmongFlows to xs) (λ y zs here each. go y here xs each.0) (λ y zs rest each. rest each.1) ys among all
  where
    go : (y : Flow) → y.0 ≡ to → (xs : List Flow) → Follows xs y → AmongFlows to xs
    go y here [] h = absurd h
    go y here (x ∷ xs) (inl same) = inl (same.0 ∙ here)
    go y here (x ∷ xs) (inr later) = inr (go y here xs later)

module _ (p : Image) (t d : Typing) (c : Prices) (m : ℕ) (typed : IsTyped p d) (covered : IsCovered p t d) where
  -- there the rule applies
  applies : (place : ℕ) (sh : AbstractState) (i : Instr) → Stands p d m place sh i → AllTrue (rule_needs p m place sh i)
  applies place sh i at = grind (arith, nat_tests, typed.each m place sh at.shape, same_Some)

  among_there : (place to : ℕ) (sh other : AbstractState) (i : Instr) → Stands p d m place other i → IsImpliedBy other sh → AmongFlows to (flows p m place sh i) →
      AmongFlows to (flows p m place other i)
  among_there place to sh other i at implied among = grind (arith, nat_tests, leads, flows_more, applies)

  out_there : (from to out : ℕ) → GoesOut p t m from to out → GoesOut p d m from to out
  out_there from to out g =
      let w = covered.each m g.place g.shape g.instr g.stands in
      record {
        place = g.place;
        inside = g.inside;
        shape = w.0;
        instr = g.instr;
        stands = w.1;
        flow = among_there g.place out g.shape w.0 g.instr w.1 w.2 g.flow;
        outside = g.outside;
      }

  -- a path costs the same
  costs_there : (r : Region) (place k : ℕ) → Costs p t c m r place k → Costs p d c m r place k
  costs_there r place k (outside far) = outside far
  costs_there r place k (ends {sh = sh} {i = i} inside at l) =
      let w = covered.each m place sh i at in
      subst (λ x. Costs p d c m r place x) (own_is p m c w.0 sh i w.2 w.3) (ends inside w.1 l)
  costs_there r place k (goes {to = to} {n = n} {sh = sh} {i = i} inside at l plain among rest) =
      let w = covered.each m place sh i at in
      let onward = goes inside w.1 l plain (among_there place to sh w.0 i w.1 w.2 among) (costs_there r to n rest) in
      subst (λ x. Costs p d c m r place (x + n)) (own_is p m c w.0 sh i w.2 w.3) onward
  costs_there r place k (loops {to = to} {d = number} {rounds = n} {b = b} {e = e} {out = out} {sh = sh} inside at body round leaves rest) =
      let i = instr_as p t m place sh (Begin number n) at in
      let w = covered.each m place sh i.0 i.1 in
      loops inside (stands_as p d m place w.0 (Begin number n) i.0 w.1 i.2) body (costs_there _ (suc place) b round) (out_there place to out leaves) (costs_there r out e rest)
  costs_there r place k (loops_in {to = to} {d = number} {rounds = n} {b = b} {sh = sh} inside at body round) =
      let i = instr_as p t m place sh (Begin number n) at in
      let w = covered.each m place sh i.0 i.1 in
      loops_in inside (stands_as p d m place w.0 (Begin number n) i.0 w.1 i.2) body (costs_there _ (suc place) b round)

-- a table says the prices by the one as by the other
pub prices_alike : (p : Image) (t d : Typing) (c : Prices) → IsTyped p t → IsTyped p d → IsCovered p t d → IsCovered p d t → ArePrices p t c → ArePrices p d c
prices_alike p t d c typed also covered back are = search (arith, nat_tests, costs_there p t d c, costs_there p d t c)
