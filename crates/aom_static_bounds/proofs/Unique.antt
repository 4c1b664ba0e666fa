-- Two tables that say the prices say the same: method by method each path costs the same by both.
use Rattle.std.proofs.Common.{◌≡◌, ◌<◌, ◌+◌, ◌∙◌, ℕ, suc, length, refl, sym, arith, subst}
use Rattle.std.specs.Prelude.{IsSome}
use Rattle.aom_image.specs.Image.{Image}
use Rattle.aom_image.specs.WellFormed.{WellFormed}
use Rattle.aom_image.specs.Views.{method_at}
use Rattle.aom_instructions.specs.declared.instr.Instr.{Instr}
use Rattle.aom_link_conditions.specs.Linked.{IsLinked}
use Rattle.aom_abstract_state.specs.AbstractState.{AbstractState}
use Rattle.aom_typing_rules.specs.Typing.{Typing}
use Rattle.aom_static_bounds.specs.Prices.{Prices, Stands, own, price}
use Rattle.aom_static_bounds.specs.Costs.{ArePrices, Costs, Region, Whole, destructor_price}
use Rattle.aom_static_bounds.specs.Costs.Costs.{outside, ends, goes, loops, loops_in}
use Rattle.aom_static_bounds.specs.PriceLaws.{PricesAreOne}
use Rattle.aom_static_bounds.specs.Layers.{PaysBefore}
use Rattle.aom_static_bounds.proofs.Methods.{destructs_within}
use Rattle.aom_static_bounds.proofs.Typings.{method_within, within_method}
use Rattle.aom_static_bounds.proofs.Moving.{own_same}
use Rattle.aom_static_bounds.proofs.Going.{going_same, found_of}
use Rattle.aom_static_bounds.proofs.Among.{each_below}

-- a path costs the same by a table that says the same of each instruction
module _ (p : Image) (t : Typing) (c d : Prices) (m : ℕ)
    (same : (place : ℕ) (sh : AbstractState) (i : Instr) → Stands p t m place sh i → own p m c sh i ≡ own p m d sh i) where
  costs_same : (r : Region) (place k : ℕ) → Costs p t c m r place k → Costs p t d m r place k
  costs_same r place k (outside far) = outside far
  costs_same r place k (ends {sh = sh} {i = i} inside at l) = subst (λ x. Costs p t d m r place x) (sym (same place sh i at)) (ends inside at l)
  costs_same r place k (goes {to = to} {n = n} {sh = sh} {i = i} inside at l plain among rest) =
      subst (λ x. Costs p t d m r place (x + n)) (sym (same place sh i at)) (goes inside at l plain among (costs_same r to n rest))
  costs_same r place k (loops {to = to} {b = b} {e = e} {out = out} inside at body round out_there rest) =
      loops inside at body (costs_same _ (suc place) b round) out_there (costs_same r out e rest)
  costs_same r place k (loops_in {to = to} {b = b} inside at body round) = loops_in inside at body (costs_same _ (suc place) b round)

module _ (p : Image) (t : Typing) (c d : Prices) (formed : WellFormed p) (linked : IsLinked p) (layered : PaysBefore p t) (are : ArePrices p t c)
    (also : ArePrices p t d) where
  method_same : (m : ℕ) → IsSome (method_at p m) → ((k : ℕ) → k < m → price d k ≡ price c k) → price d m ≡ price c m
  method_same m some before =
      let one = are.methods m some in
      let other = also.methods m some in
      let up = other.most (price c m) (costs_same p t c d m (λ place sh i at. sym (owned place sh i at)) Whole 0 (price c m) one.met) in
      let down = one.most (price d m) (costs_same p t d c m owned Whole 0 (price d m) other.met) in
      omega (arith, up, down)
    where
      owned : (place : ℕ) (sh : AbstractState) (i : Instr) → Stands p t m place sh i → own p m d sh i ≡ own p m c sh i
      owned place sh i at = own_same (λ n. n) p c d (found_of p formed linked c are.classes) (found_of p formed linked d also.classes) m sh i
          (λ k paid. before k (layered.each m place k sh i at paid))

  same_there : (k : ℕ) → k < length p.methods → price c k ≡ price d k
  same_there k lt = sym (each_below (λ j. price d j ≡ price c j) (length p.methods) (λ j less before. method_same j (within_method p j less) before) k lt)

pub law_one : PricesAreOne
law_one p t c d formed linked layered are also = record {
  methods = λ m some. same_there p t c d formed linked layered are also m (method_within p m some);
  classes = λ x. let same = going_same p
      (destructor_price c) (destructor_price d) refl x (λ k runs. same_there p t c d formed linked layered are also k (destructs_within p x k runs)) in
      found_of p formed linked c are.classes x ∙ (same ∙ sym (found_of p formed linked d also.classes x));
}
