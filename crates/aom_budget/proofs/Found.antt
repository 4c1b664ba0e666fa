-- Once a number is found of a method, the tables by it are those by the numbers with this one more.
use Rattle.std.proofs.lemmas.Bool.Decides.{nat_tests}
use Rattle.std.proofs.Common.{List, Some, ap, arith, cond, length, slice_set, subst, sym, IsSome, ℕ, ◌<◌, ◌∙◌, ◌≡◌, ◌≤◌}
use Rattle.std.specs.Prelude.{max}
use Rattle.std.proofs.lemmas.List.{length-set}
use Rattle.aom_image.specs.Image.{Image}
use Rattle.aom_image.specs.Views.{method_at}
use Rattle.aom_image.specs.WellFormed.{WellFormed}
use Rattle.aom_image.specs.declared.method.Method.{Method}
use Rattle.aom_image.specs.declared.method.Role.TheVariants.{Cancel, Destruct}
use Rattle.aom_image.specs.declared.method.Thing.TheVariants.{Object}
use Rattle.aom_roles.specs.Tables.{at}
use Rattle.aom_static_bounds.specs.Calls.{cancels, destructors}
use Rattle.aom_budget.proofs.StaticBoundsLemmas.{method_within}
use Rattle.aom_budget.specs.Costing.{IsDestroyed}
use Rattle.aom_budget.specs.Greatest.{IsCalled, IsCancelled, IsGone, is_body, most_at}
use Rattle.aom_budget.specs.Pricing.{destruction_by}
use Rattle.aom_budget.proofs.Destroyed.{cancelled_below, cancelled_stays, destroyed_below, destroyed_stays, gone_below, gone_stays}
use Rattle.aom_budget.proofs.Raised.{called_raised}

-- a number is set of a method of which none is found yet
pub record IsSet (p : Image) (ns : List ℕ) (m v : ℕ) (now : List ℕ) : Type 0 where
  pub there : m < length p.methods
  pub sized : length ns ≡ length p.methods
  pub unset : at 0 ns m ≡ 0
  pub is : now ≡ slice_set ns m v

pub is_set : (p : Image) (ns now : List ℕ) (m i v : ℕ) → IsSome (method_at p m) → length ns ≡ length p.methods → at 0 ns m ≡ 0 → i ≡ m →
    now ≡ slice_set ns i v → IsSet p ns m v now
is_set p ns now m i v some sized unset same is = record { there = method_within p m some; sized = sized; unset = unset; is = is ∙ ap (λ j. slice_set ns j v) same }

module _ (p : Image) (ns : List ℕ) (m v : ℕ) (now : List ℕ) (h : IsSet p ns m v now) where
  within : m < length ns
  within = let there = h.there in let sized = h.sized in omega (arith, there, sized)

  low : at 0 ns m ≤ v
  low = let unset = h.unset in omega (arith, unset)

  pub set_size : length now ≡ length p.methods
  set_size = ap (λ (xs : List ℕ). length xs) h.is ∙ length-set ns m v ∙ h.sized

  pub called_now : WellFormed p → (q : Image) (u : ℕ) (old new : List ℕ) → q ≡ p → u ≡ v → IsCalled p ns old → length new ≡ length old →
      ((k : ℕ) → k < length old → at 0 new k ≡ max (at 0 old k) (cond (is_body q m k) u 0)) → IsCalled p now new
  called_now formed q u old new same is called size each = grind (
    arith,
    nat_tests,
    called_raised p formed m v ns old new called h.there h.sized h.unset size,
    is,
  )

  module _ (d : Method) (there : method_at p m ≡ Some d) (table : List ℕ) where
    pub destroyed_low : IsDestroyed p ns table → (c : ℕ) → at 0 table c ≤ destruction_by p now (Object c)
    destroyed_low is c = subst (λ xs. at 0 table c ≤ destruction_by p xs (Object c)) (sym h.is) (destroyed_below p ns m v d there within low table is c)

    pub cancelled_low : IsCancelled p ns table → (c : ℕ) → at 0 table c ≤ most_at now (cancels p (Some c))
    cancelled_low is c = subst (λ xs. at 0 table c ≤ most_at xs (cancels p (Some c))) (sym h.is) (cancelled_below p ns m v d there within low table is c)

    pub gone_low : IsGone p ns table → (c : ℕ) → at 0 table c ≤ most_at now (destructors p (Some c))
    gone_low is c = subst (λ xs. at 0 table c ≤ most_at xs (destructors p (Some c))) (sym h.is) (gone_below p ns m v d there within low table is c)

    pub destroyed_still : (d.role ≡ Destruct → ⊥) → IsDestroyed p ns table → IsDestroyed p now table
    destroyed_still other is = subst (λ xs. IsDestroyed p xs table) (sym h.is) (destroyed_stays p ns m v d there other table is)

    pub cancelled_still : (d.role ≡ Cancel → ⊥) → IsCancelled p ns table → IsCancelled p now table
    cancelled_still other is = subst (λ xs. IsCancelled p xs table) (sym h.is) (cancelled_stays p ns m v d there other table is)

    pub gone_still : (d.role ≡ Destruct → ⊥) → IsGone p ns table → IsGone p now table
    gone_still other is = subst (λ xs. IsGone p xs table) (sym h.is) (gone_stays p ns m v d there other table is)

-- roles differ
pub destructs_not : (d : Method) → d.role ≡ Cancel → d.role ≡ Destruct → ⊥
destructs_not d one other = cc
