-- The most over the places past a loop to which an instruction goes on.
use Rattle.std.proofs.Common.{◌≡◌, ℕ, ◌<◌, ◌≤◌, ◌+◌, ◌⊎◌, cond, List, [], ◌∷◌, Some, None, inl, inr, refl, arith}
use Rattle.std.specs.Prelude.{nat_lt}
use Rattle.std.proofs.lemmas.Bool.Decides.{leb_tells}
use Rattle.std.proofs.lemmas.Bool.{le-ltb, lt-ltb}
use Rattle.aom_image.specs.Image.{Image}
use Rattle.aom_image.specs.Views.{instr_at}
use Rattle.aom_instructions.specs.declared.instr.Instr.{Instr}
use Rattle.aom_link_conditions.specs.Bodies.{IsIn}
use Rattle.aom_abstract_state.specs.AbstractState.{AbstractState}
use Rattle.aom_roles.specs.Tables.{at}
use Rattle.aom_static_bounds.specs.Shapes.{Shapes}
use Rattle.aom_static_bounds.specs.Calls.{Among}
use Rattle.aom_budget.specs.StackDepths.{IsMost, Before}
use Rattle.aom_budget.specs.Pricing.{targets_of, most_past, ExitsAt}
use Rattle.aom_budget.proofs.Most.{of_none, alike, of_either}

-- a place among those, past that one, has that number
record PastOf (from : List ℕ) (last : ℕ) (places : List ℕ) (n : ℕ) : Type 0 where
  out : ℕ
  among : Among out places
  past : last < out
  is : at 0 from out ≡ n

first_or_rest : (from : List ℕ) (last to : ℕ) (rest : List ℕ) (n : ℕ) → PastOf from last (to ∷ []) n ⊎ PastOf from last rest n → PastOf from last (to ∷ rest) n
first_or_rest from last to rest n (inl h) = elim h.among [
  | inl e ↦ record { out = h.out; among = inl e; past = h.past; is = h.is }
  | inr none ↦ absurd none
]
first_or_rest from last to rest n (inr h) = record { out = h.out; among = inr h.among; past = h.past; is = h.is }

is_first_or_rest : (from : List ℕ) (last to : ℕ) (rest : List ℕ) (n : ℕ) → PastOf from last (to ∷ rest) n → PastOf from last (to ∷ []) n ⊎ PastOf from last rest n
is_first_or_rest from last to rest n h = elim h.among [
  | inl e ↦ inl (record { out = h.out; among = inl e; past = h.past; is = h.is })
  | inr c ↦ inr (record { out = h.out; among = c; past = h.past; is = h.is })
]

one_past : (from : List ℕ) (last to : ℕ) → cond (nat_lt last to) (at 0 from to) 0 ≤ 4294967296 →
    IsMost 4294967296 (PastOf from last (to ∷ [])) (cond (nat_lt last to) (at 0 from to) 0)
one_past from last to low = elim (leb_tells to last) [
  | inl w ↦ rw (le-ltb last to w.1) (of_none 4294967296 (PastOf from last (to ∷ [])) (λ k h. elim h.among [
    | inl e ↦ let past : last < to = rw e at h.past in absurd (omega (arith, past, w.1))
    | inr none ↦ absurd none
  ]))
  | inr w ↦
      let small : at 0 from to ≤ 4294967296 = rw (lt-ltb last to w.1) at low in
      rw (lt-ltb last to w.1) (record {
        above = λ k h. elim h.among [
          | inl e ↦ let is : at 0 from to ≡ k = rw e at h.is in omega (arith, is)
          | inr none ↦ absurd none
        ];
        met = inr (at 0 from to, record { out = to; among = inl refl; past = w.1; is = refl }, omega (arith, small));
      })
]

most_of_past : (from : List ℕ) (last : ℕ) (places : List ℕ) → most_past from last places ≤ 4294967296 →
    IsMost 4294967296 (PastOf from last places) (most_past from last places)
most_of_past from last [] low = of_none 4294967296 (PastOf from last []) (λ k h. h.among)
most_of_past from last (to ∷ rest) low =
    let first = one_past from last to (omega (arith, low)) in
    let others = most_of_past from last rest (omega (arith, low)) in
    alike 4294967296 (λ n. PastOf from last (to ∷ []) n ⊎ PastOf from last rest n) (PastOf from last (to ∷ rest)) _ (first_or_rest from last to rest)
    (is_first_or_rest from last to rest) (of_either 4294967296 (PastOf from last (to ∷ [])) (PastOf from last rest) _ _ first others)

module _ (p : Image) (m : ℕ) (s : Shapes) (from : List ℕ) (first last place : ℕ) where
  pub no_exit : at None s place ≡ None → IsMost 4294967296 (ExitsAt p m s from first last place) 0
  no_exit none = of_none 4294967296 (ExitsAt p m s from first last place) (λ n h. let f = h.there in cc)

  pub exits : (sh : AbstractState) (i : Instr) (n : ℕ) → IsIn first last place → at None s place ≡ Some sh → instr_at p m place ≡ Some i →
      n ≡ most_past from last (targets_of p place sh i) → n ≤ 4294967296 → IsMost 4294967296 (ExitsAt p m s from first last place) n
  exits sh i n inside there stands is low =
      let most = most_of_past from last (targets_of p place sh i) (omega (arith, is, low)) in
      rw is (alike 4294967296 (PastOf from last (targets_of p place sh i)) (ExitsAt p m s from first last place) _
      (λ k h. record { inside = inside; shape = sh; there = there; instr = i; stands = stands; out = h.out; flow = h.among; outside = h.past; is = h.is })
      (λ k h.
      let same : h.shape ≡ sh = let f = h.there in cc in
      let one : h.instr ≡ i = let f = h.stands in cc in
      record { out = h.out; among = rw (same, one) at h.flow; past = h.outside; is = h.is }) most)

pub none_before : (p : Image) (m : ℕ) (s : Shapes) (from : List ℕ) (first last : ℕ) → IsMost 4294967296 (Before (ExitsAt p m s from first last) (first + 1)) 0
none_before p m s from first last =
    of_none 4294967296 (Before (ExitsAt p m s from first last) (first + 1)) (λ n h. absurd (omega (arith, h.below, h.comes.inside.0)))
