-- A number of which it holds is the one that is over so many others, and there is no other such one.
use Rattle.std.proofs.Common.{◌≡◌, ◌∙◌, ◌≤◌, ℕ, zero, suc, Bool, true, false, cond, ◌==◌, ◌&&◌, Some, None, ap, arith, refl, sym}
use Rattle.std.proofs.lemmas.Bool.{eqb-false, eqb-true}
use Rattle.std.proofs.lemmas.Option.{none-some}
use Rattle.aom_link_conditions.specs.Roles.{or_else}
use Rattle.aom_debug_views.specs.CellViews.{counted}
use Rattle.aom_debug_paths.specs.Paths.{at_count, numbered}

module _ (f : ℕ → Bool) (k : ℕ) where
  -- what is counted here tells whether it holds
  is_so : (here n : ℕ) → here ≡ cond (f n) 1 0 → (here == 1) ≡ f n
  is_so here n is = go (f n) is
    where
      go : (b : Bool) → here ≡ cond b 1 0 → (here == 1) ≡ b
      go true e = ap (λ x. x == 1) e
      go false e = ap (λ x. x == 1) e

  -- it is none of the first so many; it is the next, or not
  pub numbered_reported : (n here others : ℕ) (b : Bool) →
      here ≡ cond (f n) 1 0 → others ≡ counted f n → numbered f k n ≡ None → ((here == 1) && (others == k)) ≡ b → numbered f k (suc n) ≡ cond b (Some n) None
  numbered_reported n here others b is count none reported = ap (λ o. or_else o (at_count f k n)) none ∙ ap (λ c. cond (c && (counted f n == k)) (Some n) None)
      (sym (is_so here n is)) ∙ ap (λ j. cond ((here == 1) && (j == k)) (Some n) None) (sym count) ∙ ap (λ c. cond c (Some n) None) reported

  -- then it is that of any more
  pub numbered_more : (n m d : ℕ) → n ≤ m → numbered f k n ≡ Some d → numbered f k m ≡ Some d
  numbered_more zero m d le is = absurd (none-some d is)
  numbered_more (suc n) zero d le is = absurd (omega (arith, le))
  numbered_more (suc n) (suc m) d le is = go (suc n == suc m) refl (λ less. numbered_more (suc n) m d less is)
    where
      go : (b : Bool) → (suc n == suc m) ≡ b → (suc n ≤ m → numbered f k m ≡ Some d) → numbered f k (suc m) ≡ Some d
      go true same earlier = ap (numbered f k) (sym (eqb-true (suc n) (suc m) same)) ∙ is
      go false other earlier =
          let apart = eqb-false (suc n) (suc m) other in
          ap (λ o. or_else o (at_count f k m)) (earlier (omega (arith, le, apart)))
