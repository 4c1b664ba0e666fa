-- The greater of two numbers, the numbers below one, and the places that flows lead to.
use Rattle.std.proofs.Common.{◌≡◌, ◌<◌, ◌≤◌, ℕ, zero, suc, Bool, true, false, cond, List, [], ◌∷◌, inl, inr, ⊎_elim, refl, arith, subst}
use Rattle.std.specs.Prelude.{max}
use Rattle.std.proofs.lemmas.Bool.{cases_lt}
use Rattle.aom_abstract_state.specs.Needs.{Flow}
use Rattle.aom_static_bounds.specs.Costs.{AmongFlows}

-- ---- numbers

-- the greater of two is one of them
pub either_max : (P : ℕ → Type 0) (x y : ℕ) → P x → P y → P (max x y)
either_max P x y here there = ⊎_elim (λ (lt : x < y). subst P (omega (arith, lt)) there) (λ (ge : y ≤ x). subst P (omega (arith, ge)) here) (cases_lt x y)

pub either_cond : (P : ℕ → Type 0) (b : Bool) (x y : ℕ) → (b ≡ true → P x) → (b ≡ false → P y) → P (cond b x y)
either_cond P true x y is is_not = is refl
either_cond P false x y is is_not = is_not refl

-- what holds of a number and of the one after each of which it holds holds from there on
pub from_there : (P : ℕ → Type 0) (k n : ℕ) → P k → ((j : ℕ) → P j → P (suc j)) → k ≤ n → P n
from_there P k zero here more le = subst P (omega (arith, le)) here
from_there P k (suc n) here more le = ⊎_elim (λ (lt : k < suc n). more n (from_there P k n here more (omega (arith, lt))))
    (λ (ge : suc n ≤ k). subst P (omega (arith, ge, le)) here) (cases_lt k (suc n))

pub below_next : (P : ℕ → Type 0) (n : ℕ) → ((k : ℕ) → k < n → P k) → P n → (k : ℕ) → k < suc n → P k
below_next P n below here k lt = ⊎_elim (below k) (λ (ge : n ≤ k). subst P (omega (arith, ge, lt)) here) (cases_lt k n)

-- what holds of a number where it holds of each before holds of each below a number
pub each_below : (P : ℕ → Type 0) (n : ℕ) → ((k : ℕ) → k < n → ((j : ℕ) → j < k → P j) → P k) → (k : ℕ) → k < n → P k
each_below P zero step k lt = absurd (omega (arith, lt))
each_below P (suc n) step k lt = let below = each_below P n (λ j less. step j (omega (arith, less))) in below_next P n below (step n (omega arith) below) k lt

-- ---- flows

-- what holds of flows the first of which leads there, and of those of whose rest it holds, holds of all flows that lead there
pub by_flow : (to : ℕ) (P : List Flow → Type 0) → ((f : Flow) (fs : List Flow) → f.0 ≡ to → P (f ∷ fs)) → ((f : Flow) (fs : List Flow) → P fs → P (f ∷ fs)) →
    (fs : List Flow) → AmongFlows to fs → P fs
by_flow to P first later [] among = absurd among
by_flow to P first later (f ∷ fs) (inl here) = first f fs here
by_flow to P first later (f ∷ fs) (inr rest) = later f fs (by_flow to P first later fs rest)
