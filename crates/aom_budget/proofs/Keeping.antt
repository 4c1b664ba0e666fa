-- Sums that are set stay kept.
use Rattle.std.proofs.lemmas.Bool.Decides.{nat_tests}
use Rattle.std.proofs.Common.{◌≡◌, ◌==◌, ℕ, zero, suc, ◌<◌, ◌≤◌, cond, List, [], ◌∷◌, length, slice_index_or, slice_set, replicate, refl, arith, ◌∙◌}
use Rattle.std.specs.Prelude.{max}
use Rattle.std.proofs.lemmas.Bool.{eq-eqb, eqb-true}
use Rattle.std.proofs.lemmas.Bool.Decides.{eqb_tells}
use Rattle.aom_roles.specs.Tables.{at}
use Rattle.aom_budget.proofs.AbstractStateLemmas.{at_set_here, at_set_other, at_within}
use Rattle.aom_budget.specs.Pricing.{AreKept}

pub at_zeros_only : (n i : ℕ) → ◌≡◌ {A = ℕ} (at 0 (replicate n 0) i) 0
at_zeros_only zero i = refl
at_zeros_only (suc n) zero = refl
at_zeros_only (suc n) (suc i) = at_zeros_only n i

pub zeros_only_kept : (n : ℕ) → AreKept (replicate n 0)
zeros_only_kept n = record { each = λ i. let none = at_zeros_only n i in omega (arith, none) }

pub set_kept : (sums : List ℕ) (i v : ℕ) → i < length sums → v ≤ 4294967296 → AreKept sums → AreKept (slice_set sums i v)
set_kept sums i v within low h = record {
  each = grind (arith, nat_tests, eqb_tells, at_set_here 0 sums i v within, at_set_other 0 sums i);
}

-- within a list it does not matter what lies past its end
pub at_either : (d e : ℕ) (xs : List ℕ) (i : ℕ) → i < length xs → at d xs i ≡ at e xs i
at_either d e [] i lt = absurd (omega (arith, lt))
at_either d e (x ∷ xs) zero lt = refl
at_either d e (x ∷ xs) (suc i) lt = at_either d e xs i (omega (arith, lt))

-- what is read there
pub read_past : (ds xs : List ℕ) (past i n : ℕ) → xs ≡ ds → i < length ds → n ≡ slice_index_or xs i n → n ≡ at past ds i
read_past ds xs past i n e h r = (rw e at r) ∙ at_within past n ds i h

-- what is raised
pub raised_set : (xs : List ℕ) (i v u k : ℕ) → i < length xs → u ≡ max (at 0 xs i) v → at 0 (slice_set xs i u) k ≡ max (at 0 xs k) (cond (i == k) v 0)
raised_set xs i v u k lt is = grind (arith, nat_tests, eqb-true i k, at_set_here 0 xs i u lt, at_set_other 0 xs i k u, eq-eqb i k)
