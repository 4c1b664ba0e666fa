-- What a call runs on a class, by what the class has itself and what runs on its parent, by an induction over the generations.
use Rattle.std.proofs.Common.{IfSome, Option, Some, None, ap, arith, refl, suc, sym, zero, ℕ, ◌∙◌, ◌≡◌, ◌≤◌}
use Rattle.aom_image.specs.Image.{Image}
use Rattle.aom_roles.specs.Families.{parent_of}
use Rattle.aom_linker.proofs.RolesLemmas.{fewer, none_below, parent_below}
use Rattle.aom_link_conditions.specs.Roles.{or_else}
use Rattle.aom_link_conditions.specs.Overriding.{body_by, body_of, found_in, overrider_of}
use Rattle.aom_linker.specs.Bodies.{body_above}

-- ---- enough generations

none_found : (p : Image) (n m : ℕ) → found_in p n None m ≡ None
unfolding found_in
none_found p zero m = refl
none_found p (suc n) m = refl

alone : (o : Option ℕ) → or_else o None ≡ o
alone None = refl
alone (Some k) = refl

no_parent : (p : Image) (c : ℕ) → c ≤ 0 → parent_of p c ≡ None
no_parent p c le = let none : c ≡ 0 = omega (arith, le) in ap (parent_of p) none ∙ none_below p

implied : (p : Image) (n c m : ℕ) → c ≤ 0 → or_else (overrider_of p c m) (found_in p n (parent_of p c) m) ≡ overrider_of p c m
implied p n c m le = ap (λ o. or_else (overrider_of p c m) (found_in p n o m)) (no_parent p c le) ∙ ap (or_else (overrider_of p c m)) (none_found p n m)
    ∙ alone (overrider_of p c m)

enough : (p : Image) (n k : ℕ) (o : Option ℕ) (m : ℕ) → IfSome o (λ c. c ≤ n) → IfSome o (λ c. c ≤ k) → found_in p n o m ≡ found_in p k o m
unfolding found_in
enough p zero zero None m a b = refl
enough p zero (suc k) None m a b = refl
enough p (suc n) zero None m a b = refl
enough p (suc n) (suc k) None m a b = refl
enough p zero zero (Some c) m a b = refl
enough p zero (suc k) (Some c) m a b = sym (implied p k c m a)
enough p (suc n) zero (Some c) m a b = implied p n c m b
enough p (suc n) (suc k) (Some c) m a b = ap (or_else (overrider_of p c m)) (enough p n k (parent_of p c) m (fewer p c n a) (fewer p c k b))

-- ---- the nearest

-- what is found above a class is what its parent has
above : (p : Image) (c m : ℕ) → found_in p (suc c) (Some c) m ≡ found_in p c (Some c) m
above p c m = enough p (suc c) c (Some c) m (omega arith) (omega arith)

parents : (p : Image) (c m : ℕ) (o : Option ℕ) → parent_of p c ≡ o → body_by m (found_in p c o m) ≡ body_of p m o
unfolding body_of
parents p c m None is = ap (body_by m) (none_found p c m)
parents p c m (Some e) is = ap (body_by m) (enough p c e (Some e) m (let lt = parent_below p c e is in omega arith) (omega arith))

split : (m : ℕ) (own more : Option ℕ) (rest : ℕ) → body_by m more ≡ rest → body_by m (or_else own more) ≡ body_by rest own
split m None more rest is = is
split m (Some k) more rest is = refl

-- a call runs what the class has itself, or else what it runs on an object of the parent
pub by_parent : (p : Image) (m c : ℕ) → body_of p m (Some c) ≡ body_by (body_above p m c) (overrider_of p c m)
unfolding body_of found_in
by_parent p m c =
    ap (body_by m) (sym (above p c m)) ∙ split m (overrider_of p c m) (found_in p c (parent_of p c) m) (body_above p m c) (parents p c m (parent_of p c) refl)
