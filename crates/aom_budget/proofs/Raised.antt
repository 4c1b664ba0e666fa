-- Tables raised class by class have at each class the greatest of what descends from it, and tables raised along overriders that of all that a call runs.
use Rattle.std.proofs.lemmas.Bool.Decides.{nat_tests}
use Rattle.std.proofs.Common.{Bool, List, Some, [], arith, cond, false, inl, inr, length, refl, replicate, slice_set, suc, sym, true, ℕ, ◌+◌, ◌<◌, ◌∙◌, ◌≡◌}
use Rattle.std.proofs.Common.{◌≤◌, ⊎_elim}
use Rattle.std.specs.Prelude.{max}
use Rattle.std.proofs.lemmas.Bool.{cases_lt, eq-eqb, eqb-true}
use Rattle.std.proofs.lemmas.List.{length-replicate}
use Rattle.aom_image.specs.Image.{Image}
use Rattle.aom_image.specs.WellFormed.{WellFormed}
use Rattle.aom_budget.proofs.RolesLemmas.{itself, no_higher}
use Rattle.aom_roles.specs.Families.{descends}
use Rattle.aom_roles.specs.Tables.{at}
use Rattle.aom_budget.proofs.AbstractStateLemmas.{at_past}
use Rattle.aom_static_bounds.specs.Calls.{Among, bodies, each_below}
use Rattle.aom_static_bounds.specs.Layers.{MayRun}
use Rattle.aom_static_bounds.specs.Most.{most_below, most_of}
use Rattle.aom_budget.proofs.StaticBoundsLemmas.{most_has, most_least, run_among}
use Rattle.aom_budget.specs.Greatest.{IsCalled, IsGreatest, is_body, most_at}
use Rattle.aom_budget.proofs.Greatest.{below_most, most_of_zeros_only, most_other, most_set, run_from}
use Rattle.aom_budget.proofs.Keeping.{at_zeros_only}
use Rattle.aom_budget.proofs.Overridden.{overridden_there}

-- ---- class by class

-- so many classes have raised a table, each those that it descends from
pub record IsRaised (p : Image) (f : ℕ → ℕ) (old : List ℕ) (count : ℕ) (table : List ℕ) : Type 0 where
  pub size : length table ≡ length old
  pub each : (c : ℕ) → c < length old → at 0 table c ≡ max (at 0 old c) (most_of (λ y. descends p y c) f count)

module _ (p : Image) (f : ℕ → ℕ) (old : List ℕ) where
  pub raised_first : IsRaised p f old 0 old
  raised_first = record { size = refl; each = λ c lt. omega arith }

  pub raised_more : (n : ℕ) (table new : List ℕ) → IsRaised p f old n table → length new ≡ length table →
      ((c : ℕ) → c < length table → at 0 new c ≡ max (at 0 table c) (cond (descends p n c) (f n) 0)) → IsRaised p f old (suc n) new
  raised_more n table new h size each = record {
    size = size ∙ h.size;
    each = grind (arith, nat_tests, each);
  }

  pub raised_next : (q : Image) (n i v : ℕ) (table new : List ℕ) → q ≡ p → i ≡ n → v ≡ f i → IsRaised p f old n table → length new ≡ length table →
      ((c : ℕ) → c < length table → at 0 new c ≡ max (at 0 table c) (cond (descends q i c) v 0)) → IsRaised p f old (n + 1) new
  raised_next q n i v table new image same is h size each = grind (arith, nat_tests, raised_more n table new h size, size, each)

  pub raised_all : (table : List ℕ) → IsRaised p f old (length p.classes) table → (c : ℕ) → c < length p.classes →
      c < length old → at 0 old c ≤ most_below p f c → at 0 table c ≡ most_below p f c
  raised_all table h c lt within below =
      let is = h.each c within in
      let own = most_has (λ y. descends p y c) f (length p.classes) c lt (itself p c) in
      omega (arith, is, own, below)

-- nothing descends from a class that is not there
pub below_absent : (p : Image) (f : ℕ → ℕ) (c : ℕ) → length p.classes ≤ c → most_below p f c ≡ f c
below_absent p f c past =
    let none = most_least (λ y. descends p y c) f (length p.classes) 0 (λ k lt h. let le = no_higher p k c h in absurd (omega (arith, lt, le, past))) in
    omega (arith, none)

-- the greatest of what is listed, where nothing is listed of a class that is not there
pub greatest_made : (p : Image) (ns : List ℕ) (lists : ℕ → List ℕ) → ((c : ℕ) → length p.classes ≤ c → lists c ≡ []) →
    (old table : List ℕ) → length old ≡ length p.classes → ((c : ℕ) → at 0 old c ≤ most_at ns (each_below p lists (Some c))) →
    IsRaised p (λ y. most_at ns (lists y)) old (length p.classes) table → IsGreatest (length p.classes) (λ c. each_below p lists (Some c)) ns table
greatest_made p ns lists absent old table size below raised =
    record { size = raised.size ∙ size; each = λ c. ⊎_elim (within c) (past c) (cases_lt c (length p.classes)) }
  where
    within : (c : ℕ) → c < length p.classes → at 0 table c ≡ most_at ns (each_below p lists (Some c))
    within c lt =
        let is = below_most p ns lists c in
        let low = below c in
        raised_all p (λ y. most_at ns (lists y)) old table raised c lt (omega (arith, lt, size)) (omega (arith, is, low)) ∙ sym is

    past : (c : ℕ) → length p.classes ≤ c → at 0 table c ≡ most_at ns (each_below p lists (Some c))
    past c le = grind (arith, nat_tests, at_past 0 table c, size, below_most p ns lists c, below_absent p)

-- ---- where nothing is found yet

pub zeros_only_greatest : (count n : ℕ) (lists : ℕ → List ℕ) (m : ℕ) → m ≡ count → IsGreatest count lists (replicate n 0) (replicate m 0)
zeros_only_greatest count n lists m same = record {
  size = length-replicate {A = ℕ} m 0 ∙ same;
  each = λ k. at_zeros_only m k ∙ sym (most_of_zeros_only n (lists k));
}

-- ---- along overriders

module _ (p : Image) (formed : WellFormed p)
    (m v : ℕ) (ns old new : List ℕ) (is : IsCalled p ns old) (here : m < length p.methods) (sized : length ns ≡ length p.methods) (unset : at 0 ns m ≡ 0)
    (size : length new ≡ length old) (each : (k : ℕ) → k < length old → at 0 new k ≡ max (at 0 old k) (cond (is_body p m k) v 0)) where
  within : m < length ns
  within = omega (arith, here, sized)

  is_listed : (k : ℕ) → is_body p m k ≡ true → Among m (bodies p k)
  is_listed k body = grind (arith, nat_tests, run_among p k m, eqb-true m k)

  not_listed : (k : ℕ) → is_body p m k ≡ false → Among m (bodies p k) → ⊥
  not_listed k none h = grind (arith, nat_tests, run_from p k m h, eq-eqb m k)

  raised_call : (k : ℕ) → k < length old → (b : Bool) →
      is_body p m k ≡ b → at 0 new k ≡ max (at 0 old k) (cond b v 0) → at 0 new k ≡ most_at (slice_set ns m v) (bodies p k)
  raised_call k lt true body more = let set = most_set ns m v within (omega (arith, unset)) (bodies p k) (is_listed k body) in let was = is.each k in
      omega (arith, set, was, more)
  raised_call k lt false body more = let same = most_other ns m v (bodies p k) (not_listed k body) in let was = is.each k in omega (arith, same, was, more)

  past_call : (k : ℕ) → length old ≤ k → at 0 new k ≡ most_at (slice_set ns m v) (bodies p k)
  past_call k le =
      at_past 0 new k (omega (arith, le, size)) ∙ sym (most_other ns m v (bodies p k) (λ h. missing (run_from p k m h)) ∙ sym (is.each k) ∙ at_past 0 old k le)
    where
      missing : MayRun p k m → ⊥
      missing (inl same) = omega (arith, same, le, is.size, here)
      missing (inr over) = let there = overridden_there p formed m k over in omega (arith, there, le, is.size)

  pub called_raised : IsCalled p (slice_set ns m v) new
  called_raised = record {
    size = size ∙ is.size;
    each = λ k. ⊎_elim (λ (lt : k < length old). raised_call k lt (is_body p m k) refl (each k lt)) (past_call k) (cases_lt k (length old));
  }

-- ---- along parents and overriders while a table is raised
