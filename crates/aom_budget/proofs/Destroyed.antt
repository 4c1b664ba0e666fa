-- What destructions cost while the methods are priced: it grows with the destructors alone.
use Rattle.std.proofs.lemmas.Bool.Decides.{nat_tests}
use Rattle.std.proofs.Common.{List, cond, Some, ap, arith, length, refl, slice_set, subst, sym, ℕ, ◌+◌, ◌<◌, ◌∙◌, ◌≡◌, ◌≤◌, ⊎_elim}
use Rattle.std.specs.Prelude.{max}
use Rattle.std.proofs.Math.Nat.{mul-le-mul_left}
use Rattle.std.proofs.lemmas.Bool.{cases_lt}
use Rattle.std.proofs.lemmas.Bool.Decides.{eqb_tells}
use Rattle.aom_image.specs.Image.{Image}
use Rattle.aom_image.specs.Views.{method_at}
use Rattle.aom_image.specs.WellFormed.{WellFormed}
use Rattle.aom_image.specs.declared.method.Method.{Method}
use Rattle.aom_image.specs.declared.method.Role.TheVariants.{Cancel, Destruct}
use Rattle.aom_image.specs.declared.method.Thing.{Thing}
use Rattle.aom_image.specs.declared.method.Thing.TheVariants.{Object}
use Rattle.aom_roles.specs.Families.{descends}
use Rattle.aom_roles.specs.Tables.{at}
use Rattle.aom_budget.proofs.AbstractStateLemmas.{at_past, at_set_here, at_set_other}
use Rattle.aom_static_bounds.specs.Calls.{cancels, destructors}
use Rattle.aom_static_bounds.specs.Most.{most_below, most_of}
use Rattle.aom_static_bounds.specs.Sweeping.{whole_going}
use Rattle.aom_budget.proofs.StaticBoundsLemmas.{all_related, below_related, going_same}
use Rattle.aom_budget.specs.Greatest.{IsCancelled, IsGone, most_at}
use Rattle.aom_budget.specs.Costing.{IsDestroyed}
use Rattle.aom_budget.specs.Pricing.{cancel_by, destruction_by, kept, price_by}
use Rattle.aom_budget.proofs.Greatest.{below_most, most_grows, most_other}
use Rattle.aom_budget.proofs.Keeping.{at_either}
use Rattle.aom_budget.proofs.Lined.{absent_kind, absent_line, cancels_play, destructors_play, destructs_plays, most_listed, plays_not}
use Rattle.aom_budget.proofs.Raised.{IsRaised, below_absent, raised_all}

-- ---- made class by class

-- what is kept of the most is the most of what is kept
most_kept : (p : Image) (f : ℕ → ℕ) (c : ℕ) → most_below p (λ y. kept (f y)) c ≡ kept (most_below p f c)
most_kept p f c = below_related (λ x y. x ≡ kept y) refl (λ x y z w a b. omega (arith, a, b)) p (λ y. kept (f y)) f c (λ x h. refl)

-- what cancels cost is the most of what is listed
pub cancels_most : (p : Image) (ns : List ℕ) (c : ℕ) → most_at ns (cancels p (Some c)) ≡ cancel_by p ns (Some c)
cancels_most p ns c = grind (arith, nat_tests, below_most p ns, below_related, most_listed ns)

-- one class more is looked at, and all are
pub most_one : (p : Image) (f : ℕ → ℕ) (c n i x y own more : ℕ) → i ≡ n → x ≡ cond (descends p i c) (kept (f i)) 0 → y ≡ max more x →
    more ≡ max own (most_of (λ k. descends p k c) (λ k. kept (f k)) n) → y ≡ max own (most_of (λ k. descends p k c) (λ k. kept (f k)) (n + 1))
most_one p f c n i x y own more same is most h = grind (arith, nat_tests)

pub most_all : (p : Image) (f : ℕ → ℕ) (c n x : ℕ) → n ≡ length p.classes → x ≡ max (kept (f c)) (most_of (λ k. descends p k c) (λ k. kept (f k)) n) →
    x ≡ kept (most_below p f c)
most_all p f c n x all h = h ∙ ap (λ k. max (kept (f c)) (most_of (λ j. descends p j c) (λ j. kept (f j)) k)) all ∙ most_kept p f c

module _ (p : Image) (formed : WellFormed p) (prices : List ℕ) where
  abbrev going_of : ℕ → ℕ
  going_of y = whole_going p (price_by prices) (Object y)

  absent_going : (c : ℕ) → length p.classes ≤ c → whole_going p (price_by prices) (Object c) ≡ 1
  absent_going c past = grind (arith, nat_tests, absent_line p formed c past, absent_kind p formed c past)

  pub destroyed_made : (old table : List ℕ) → length old ≡ length p.classes → ((c : ℕ) → at 0 old c ≤ destruction_by p prices (Object c)) →
      IsRaised p (λ y. kept (whole_going p (price_by prices) (Object y))) old (length p.classes) table → IsDestroyed p prices table
  destroyed_made old table size below raised = record { size = raised.size ∙ size; each = λ c. ⊎_elim (within c) (past c) (cases_lt c (length p.classes)) }
    where
      within : (c : ℕ) → c < length p.classes → at 1 table c ≡ destruction_by p prices (Object c)
      within c lt =
          let is = most_kept p going_of c in
          let low = below c in
          at_either 1 0 table c (omega (arith, lt, raised.size, size))
          ∙ raised_all p (λ y. kept (going_of y)) old table raised c lt (omega (arith, lt, size)) (omega (arith, is, low)) ∙ is

      past : (c : ℕ) → length p.classes ≤ c → at 1 table c ≡ destruction_by p prices (Object c)
      past c le = grind (arith, nat_tests, below_absent p, absent_going c le, at_past 1 table c)

-- ---- where the price of a method is found

module _ (p : Image) (ns : List ℕ) (m v : ℕ) (d : Method) (there : method_at p m ≡ Some d) where
  module _ (within : m < length ns) (low : at 0 ns m ≤ v) where
    price_grows : (k : ℕ) → at 0 ns k ≤ at 0 (slice_set ns m v) k
    price_grows k = grind (arith, nat_tests, eqb_tells k m, at_set_here 0 ns m v within, at_set_other 0 ns m k v)

    pub destruction_grows : (x : Thing) → destruction_by p ns x ≤ destruction_by p (slice_set ns m v) x
    destruction_grows x =
        let grows = all_related (λ x y. x ≤ y) (omega arith) (λ n x y h. mul-le-mul_left n h)
        (omega arith) (λ x y z w a b. omega (arith, a, b)) (λ x y z w a b. omega (arith, a, b))
        (price_by ns) (price_by (slice_set ns m v)) (omega arith) p x (λ k runs. price_grows k) in
        omega (arith, grows)

    pub destroyed_below : (table : List ℕ) → IsDestroyed p ns table → (c : ℕ) → at 0 table c ≤ destruction_by p (slice_set ns m v) (Object c)
    destroyed_below table is c = grind (arith, nat_tests, destruction_grows (Object c), at_either 0 1 table c, at_past 0 table c, cases_lt c)

    pub cancelled_below : (table : List ℕ) → IsCancelled p ns table → (c : ℕ) → at 0 table c ≤ most_at (slice_set ns m v) (cancels p (Some c))
    cancelled_below table is c = let grows = most_grows ns m v within low (cancels p (Some c)) in let here = is.each c in omega (arith, grows, here)

    pub gone_below : (table : List ℕ) → IsGone p ns table → (c : ℕ) → at 0 table c ≤ most_at (slice_set ns m v) (destructors p (Some c))
    gone_below table is c = let grows = most_grows ns m v within low (destructors p (Some c)) in let here = is.each c in omega (arith, grows, here)

  -- that of another role is no matter
  pub destroyed_stays : (d.role ≡ Destruct → ⊥) → (table : List ℕ) → IsDestroyed p ns table → IsDestroyed p (slice_set ns m v) table
  destroyed_stays other table is = record {
    size = is.size;
    each = λ c. is.each c ∙ ap kept (going_same p
        (price_by ns) (price_by (slice_set ns m v)) refl (Object c) (λ k runs. sym (at_set_other 0 ns m k v (λ same. plays_not p m d Destruct there other
        (subst (λ i. (e : Method) × (method_at p i ≡ Some e) × (e.role ≡ Destruct)) same (destructs_plays p (Object c) k runs))))));
  }

  pub cancelled_stays : (d.role ≡ Cancel → ⊥) → (table : List ℕ) → IsCancelled p ns table → IsCancelled p (slice_set ns m v) table
  cancelled_stays other table is = record {
    size = is.size;
    each = λ c. is.each c ∙ sym (most_other ns m v (cancels p (Some c)) (λ h. plays_not p m d Cancel there other (cancels_play p c m h)));
  }

  pub gone_stays : (d.role ≡ Destruct → ⊥) → (table : List ℕ) → IsGone p ns table → IsGone p (slice_set ns m v) table
  gone_stays other table is = record {
    size = is.size;
    each = λ c. is.each c ∙ sym (most_other ns m v (destructors p (Some c)) (λ h. plays_not p m d Destruct there other (destructors_play p c m h)));
  }
