-- The greatest of some numbers up to a cap, put together from parts.
use Rattle.std.proofs.lemmas.Bool.Decides.{nat_tests}
use Rattle.std.proofs.Common.{◌≡◌, ℕ, ◌<◌, ◌≤◌, ◌+◌, ◌⊎◌, List, [], ◌∷◌, inl, inr, refl, subst, arith}
use Rattle.std.specs.Prelude.{min, max}
use Rattle.std.proofs.lemmas.Bool.Decides.{eqb_tells, leb_tells}
use Rattle.aom_roles.specs.Tables.{at}
use Rattle.aom_static_bounds.specs.Calls.{Among}
use Rattle.aom_budget.specs.StackDepths.{IsMost, OfSome, Joined, Before}
use Rattle.aom_budget.specs.Greatest.{most_at}

pub of_none : (cap : ℕ) (some : ℕ → Type 0) → ((k : ℕ) → some k → ⊥) → IsMost cap some 0
of_none cap some none = record { above = λ k h. absurd (none k h); met = inl refl }

pub alike : (cap : ℕ) (a b : ℕ → Type 0) (n : ℕ) → ((k : ℕ) → a k → b k) → ((k : ℕ) → b k → a k) → IsMost cap a n → IsMost cap b n
alike cap a b n there back h = record {
  above = λ k c. h.above k (back k c);
  met = grind (arith, nat_tests);
}

pub of_either : (cap : ℕ) (a b : ℕ → Type 0) (x y : ℕ) → IsMost cap a x → IsMost cap b y → IsMost cap (λ k. a k ⊎ b k) (max x y)
of_either cap a b x y h i = record {
  above = grind (arith, nat_tests);
  met = grind (arith, nat_tests, leb_tells x y);
}

pub joined : (cap own : ℕ) (others : ℕ → Type 0) (n : ℕ) → IsMost cap others n → IsMost cap (Joined own others) (min (own + n) cap)
joined cap own others n h = record {
  above = grind (arith, nat_tests);
  met = elim h.met [
    | inl e ↦ inr (own, inl refl, omega (arith, e))
    | inr w ↦ inr (own + w.0, inr (w.0, w.1, refl), omega (arith, w.2))
  ];
}

-- ---- of the methods in a list

first_or_others : (of : ℕ → ℕ → Type 0) (k : ℕ) (ks : List ℕ) (n : ℕ) → of k n ⊎ OfSome of ks n → OfSome of (k ∷ ks) n
first_or_others of k ks n x = grind arith

is_first_or_other : (of : ℕ → ℕ → Type 0) (k : ℕ) (ks : List ℕ) (n : ℕ) → OfSome of (k ∷ ks) n → of k n ⊎ OfSome of ks n
is_first_or_other of k ks n h = elim h.among [
  | inl e ↦ inl (subst (λ j. of j n) e h.has)
  | inr c ↦ inr (record { method = h.method; among = c; has = h.has })
]

pub of_methods : (cap : ℕ) (of : ℕ → ℕ → Type 0) (table ks : List ℕ) → ((k : ℕ) → Among k ks → IsMost cap (of k) (at 0 table k)) →
    IsMost cap (OfSome of ks) (most_at table ks)
of_methods cap of table [] right = of_none cap (OfSome of []) (λ n h. h.among)
of_methods cap of table (k ∷ ks) right =
    let first = right k (inl refl) in
    let others = of_methods cap of table ks (λ j c. right j (inr c)) in
    alike cap (λ n. of k n ⊎ OfSome of ks n) (OfSome of (k ∷ ks)) _ (first_or_others of k ks) (is_first_or_other of k ks)
    (of_either cap (of k) (OfSome of ks) _ _ first others)

-- ---- of the places below a count

pub before_first : (cap : ℕ) (here : ℕ → ℕ → Type 0) → IsMost cap (Before here 0) 0
before_first cap here = of_none cap (Before here 0) (λ k h. absurd (omega (arith, h.below)))

join_last : (here : ℕ → ℕ → Type 0) (count n : ℕ) → Before here count n ⊎ here count n → Before here (count + 1) n
join_last here count n x = grind arith

split_last : (here : ℕ → ℕ → Type 0) (count n : ℕ) → Before here (count + 1) n → Before here count n ⊎ here count n
split_last here count n h = elim (eqb_tells h.place count) [
  | inl w ↦ inr (subst (λ place. here place n) w.1 h.comes)
  | inr w ↦ inl (record { place = h.place; below = omega (arith, h.below, w.1); comes = h.comes })
]

pub before_more : (cap : ℕ) (here : ℕ → ℕ → Type 0) (count x y : ℕ) → IsMost cap (Before here count) x → IsMost cap (here count) y →
    IsMost cap (Before here (count + 1)) (max x y)
before_more cap here count x y h i = grind (
  arith,
  nat_tests,
  alike cap,
  join_last here count,
  split_last here count,
  of_either cap (Before here count) (here count) x y h i,
)

-- ---- below the cap it is the greatest

pub implied : (cap : ℕ) (some : ℕ → Type 0) (n : ℕ) → IsMost cap some n → n < cap → (k : ℕ) → some k → k ≤ n
implied cap some n h few k c = omega (arith, h.above k c, few)

pub is_one : (cap : ℕ) (some : ℕ → Type 0) (n k : ℕ) → IsMost cap some n → n < cap → some k → some n
is_one cap some n k h few c = elim h.met [
  | inl e ↦ let same : k ≡ n = omega (arith, implied cap some n h few k c, e) in subst some same c
  | inr w ↦ let same : w.0 ≡ n = omega (arith, w.2, few) in subst some same w.1
]

pub one_exceeds : (cap : ℕ) (some : ℕ → Type 0) (n most : ℕ) → IsMost cap some n → most < n → (k : ℕ) × some k × (most < k)
one_exceeds cap some n most h many = grind (arith, nat_tests)
