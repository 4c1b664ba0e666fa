-- Whether what overrides leads to a method, step by step.
use Rattle.std.proofs.lemmas.Bool.Decides.{nat_tests}
use Rattle.std.proofs.Common.{arith, ◌≡◌, ◌==◌, ◌||◌, ◌∙◌, ℕ, suc, true, false, IfSome, Option, Some, None, length, slice_get, ap}
use Rattle.aom_image.specs.Image.{Image}
use Rattle.aom_image.specs.declared.method.Method.{Method}
use Rattle.aom_link_conditions.specs.Overriding.{AllOverriddenOnce, IsOnly, OverriddenOnce, OverridesNothing, leads_in, leads_to, overridden_method}
use Rattle.aom_link_conditions.proofs.Facts.{all_there}

pub none_leads : (p : Image) (n m : ℕ) → leads_in p n None m ≡ false
unfolding leads_in
none_leads p x m = grind arith

pub here_leads : (p : Image) (n x m : ℕ) → (x == m) ≡ true → leads_in p n (Some x) m ≡ true
unfolding leads_in
here_leads p x y m e = grind arith

pub last_leads : (p : Image) (x m : ℕ) → (x == m) ≡ false → leads_in p 0 (Some x) m ≡ false
unfolding leads_in
last_leads p x m e = e

pub next_leads : (p : Image) (n x m : ℕ) → (x == m) ≡ false → leads_in p (suc n) (Some x) m ≡ leads_in p n (overridden_method p x) m
unfolding leads_in
next_leads p n x m e = ap (λ b. b || leads_in p n (overridden_method p x) m) e

-- where no method overrides, none is overridden twice
pub nothing_once : (p : Image) → OverridesNothing p → AllOverriddenOnce p
nothing_once p plain m = every (slice_get p.methods m)
  where
    each : (k : ℕ) (o : Option Method) → slice_get p.methods k ≡ o → IfSome o (IsOnly p m k)
    each k None is = tt
    each k (Some d) is = λ leads.
        let none = all_there (λ (e : Method). e.over ≡ None) p.methods k d plain is in
        let nowhere : leads_to p d.over m ≡ false = ap (λ o. leads_in p (length p.methods) o m) none ∙ none_leads p (length p.methods) m in
        absurd cc

    every : (o : Option Method) → IfSome o (λ e. OverriddenOnce p m)
    every x = grind (arith, nat_tests, each)
