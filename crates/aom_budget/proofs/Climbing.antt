-- One step more along overriders, and along parents, while a table is raised.
use Rattle.std.proofs.lemmas.Bool.Decides.{nat_tests}
use Rattle.std.proofs.Common.{Bool, None, Option, Some, ap, arith, cond, false, refl, suc, sym, ℕ, ◌-◌, ◌<◌, ◌==◌, ◌||◌, ◌∙◌, ◌≡◌}
use Rattle.std.specs.Prelude.{max}
use Rattle.std.proofs.lemmas.Bool.{eqb-true}
use Rattle.aom_image.specs.Image.{Image}
use Rattle.aom_budget.proofs.RolesLemmas.{from_none, from_parent, itself, parent_below}
use Rattle.aom_roles.specs.Families.{descends, parent_of}
use Rattle.aom_link_conditions.specs.Overriding.{leads_in, overridden_method}

-- what is raised by a number, where one of two counts
or_raised : (a b : Bool) (x v : ℕ) → max x (cond (a || b) v 0) ≡ max (max x (cond a v 0)) (cond b v 0)
or_raised x y z v = grind arith

-- ---- along overriders

pub lead_step : (p : Image) (n x k t v : ℕ) →
    max t (cond (leads_in p (suc n) (Some x) k) v 0) ≡ max (max t (cond (x == k) v 0)) (cond (leads_in p n (overridden_method p x) k) v 0)
unfolding leads_in
lead_step p n x k t v = or_raised (x == k) (leads_in p n (overridden_method p x) k) t v

pub lead_last : (p : Image) (x k t v : ℕ) → max t (cond (leads_in p 0 (Some x) k) v 0) ≡ max t (cond (x == k) v 0)
unfolding leads_in
lead_last p x k t v = refl

pub lead_none : (p : Image) (n k t v : ℕ) → max t (cond (leads_in p n None k) v 0) ≡ t
unfolding leads_in
lead_none p x k t v = grind arith

-- a method is raised: it is the last that may be, or what it overrides follows, or there is none
module _ (p : Image) (n k t v w : ℕ) where
  pub lead_over : (o : Option ℕ) → o ≡ None → max t (cond (leads_in p n o k) v 0) ≡ w → t ≡ w
  lead_over o none h = sym (lead_none p n k t v) ∙ ap (λ x. max t (cond (leads_in p n x k) v 0)) (sym none) ∙ h

  pub lead_ends : (x i u : ℕ) (o : Option ℕ) → o ≡ Some x → i ≡ x → n ≡ 0 → u ≡ max t (cond (i == k) v 0) → max t (cond (leads_in p n o k) v 0) ≡ w → u ≡ w
  lead_ends x i u o is same last raised h = grind (arith, nat_tests, lead_last p x k t v)

  pub lead_goes : (x i u : ℕ) (o next : Option ℕ) → o ≡ Some x → i ≡ x → (n ≡ 0 → ⊥) → next ≡ overridden_method p x → u ≡ max t (cond (i == k) v 0) →
      max t (cond (leads_in p n o k) v 0) ≡ w → max u (cond (leads_in p (n - 1) next k) v 0) ≡ w
  lead_goes x i u o next is same some over raised h = grind (arith, nat_tests, lead_step p (n - 1) x k t v)

-- ---- along parents

-- from a class on, or from none
abbrev pub some_descends : Image → Option ℕ → ℕ → Bool
some_descends p None d = false
some_descends p (Some c) d = descends p c d

-- a parent is lower, so this many are left
abbrev pub generations : Option ℕ → ℕ
generations None = 0
generations (Some c) = suc c

pub parent_step : (p : Image) (c d : ℕ) → descends p c d ≡ ((c == d) || some_descends p (parent_of p c) d)
parent_step p c d = grind (arith, nat_tests, from_none p c d, from_parent p c, eqb-true c d, itself p c)

pub class_step : (p : Image) (c d t v : ℕ) → max t (cond (descends p c d) v 0) ≡ max (max t (cond (c == d) v 0)) (cond (some_descends p (parent_of p c) d) v 0)
class_step p c d t v = ap (λ b. max t (cond b v 0)) (parent_step p c d) ∙ or_raised (c == d) (some_descends p (parent_of p c) d) t v

pub class_goes : (p : Image) (k t v w x i u : ℕ) (o next : Option ℕ) → o ≡ Some x → i ≡ x → next ≡ parent_of p x → u ≡ max t (cond (i == k) v 0) →
    max t (cond (some_descends p o k) v 0) ≡ w → max u (cond (some_descends p next k) v 0) ≡ w
class_goes p k t v w x i u o next is same parent raised h = grind (arith, nat_tests, class_step p x k t v)

pub class_over : (p : Image) (k t v w : ℕ) (o : Option ℕ) → o ≡ None → max t (cond (some_descends p o k) v 0) ≡ w → t ≡ w
class_over p k t v w o none h = let is = ap (λ y. max t (cond (some_descends p y k) v 0)) (sym none) ∙ h in omega (arith, is)

pub fewer_left : (p : Image) (c : ℕ) → generations (parent_of p c) < generations (Some c)
fewer_left p c = grind (arith, nat_tests, parent_below p c)
