-- Whether what overrides leads to a method, step by step.
use Rattle.std.proofs.Common.{arith, ◌≡◌, ◌==◌, ◌||◌, ℕ, suc, true, false, Some, ap}
use Rattle.aom_image.specs.Image.{Image}
use Rattle.aom_link_conditions.specs.Overriding.{leads_in, overridden_method}
pub use Rattle.aom_warnings.proofs.LinkConditionsLemmas.{none_leads}

pub here_leads : (p : Image) (n x m : ℕ) → (x == m) ≡ true → leads_in p n (Some x) m ≡ true
unfolding leads_in
here_leads p x y m e = grind arith

pub last_leads : (p : Image) (x m : ℕ) → (x == m) ≡ false → leads_in p 0 (Some x) m ≡ false
unfolding leads_in
last_leads p x m e = e

pub next_leads : (p : Image) (n x m : ℕ) → (x == m) ≡ false → leads_in p (suc n) (Some x) m ≡ leads_in p n (overridden_method p x) m
unfolding leads_in
next_leads p n x m e = ap (λ b. b || leads_in p n (overridden_method p x) m) e
