-- A line of destructors costs its first, and then the line from the parent of the first's class: by an induction over the classes above.
use Rattle.std.proofs.lemmas.Bool.Decides.{nat_tests}
use Rattle.std.proofs.Common.{IfSome, None, Option, Some, ap, arith, suc, zero, ℕ, ◌+◌, ◌∙◌, ◌≡◌, ◌≤◌}
use Rattle.aom_image.specs.Image.{Image}
use Rattle.aom_image.specs.Views.{class_in}
use Rattle.aom_image.specs.declared.method.Role.TheVariants.{Destruct}
use Rattle.aom_image.specs.declared.method.Thing.{Thing}
use Rattle.aom_image.specs.declared.method.Thing.TheVariants.{Object}
use Rattle.aom_static_bounds.proofs.RolesLemmas.{fewer, none_below, parent_below}
use Rattle.aom_roles.specs.Families.{parent_of, parent_above}
use Rattle.aom_static_bounds.proofs.LinkConditionsLemmas.{keeper_none, keeper_own, keeper_up, own_found}
use Rattle.aom_link_conditions.specs.Roles.{destructor_of, keeper_of, own_role, role_by, role_of}
use Rattle.aom_static_bounds.specs.Most.{line, line_after, line_from, line_in}

module _ (p : Image) (cost : Option ℕ → ℕ) where
  none_in : (n : ℕ) → line_in p cost n None ≡ 0
  none_in x = grind arith

  last_in : (n c : ℕ) → c ≤ 0 → cost (own_role p c Destruct) + line_in p cost n (parent_of p c) ≡ cost (own_role p c Destruct)
  last_in n c le = grind (arith, nat_tests, none_below p, none_in n)

  enough_in : (n m : ℕ) (o : Option ℕ) → IfSome o (λ c. c ≤ n) → IfSome o (λ c. c ≤ m) → line_in p cost n o ≡ line_in p cost m o
  enough_in (suc n) (suc m) (Some c) a b = ap (λ x. cost (own_role p c Destruct) + x) (enough_in n m (parent_of p c) (fewer p c n a) (fewer p c m b))
  enough_in x y z a b = grind arith

  pub line_step : (c : ℕ) → line p cost (Object c) ≡ cost (own_role p c Destruct) + line_from p cost (parent_of p c)
  line_step x = grind (arith, nat_tests, none_below p, none_in, parent_below p, enough_in)

  -- ---- where a class has a destructor, its own or one from above

  module _ (nothing : cost None ≡ 0) where
    own_first : (c k : ℕ) → own_role p c Destruct ≡ Some k → line p cost (Object c) ≡ cost (Some k) + line_after p cost k
    unfolding class_in
    own_first c k own = grind (arith, nat_tests, own_found p c k Destruct own, line_step c)

    -- of the parent the same, where the class has none itself
    abbrev First : ℕ → ℕ → Type 0
    First c k = role_by p Destruct (keeper_of p c Destruct) ≡ Some k → line p cost (Object c) ≡ cost (Some k) + line_after p cost k

    first_by : (c k : ℕ) → ((e : ℕ) → parent_of p c ≡ Some e → First e k) → First c k
    first_by c k later is = grind (arith, keeper_none p Destruct c, keeper_up p Destruct c, line_step c, own_first c k, keeper_own p Destruct c)

    first_in : (n c k : ℕ) → c ≤ n → First c k
    first_in zero c k le = first_by c k (λ e up. let lt = parent_below p c e up in absurd (omega (arith, le, lt)))
    first_in (suc n) c k le = first_by c k (λ e up. first_in n e k (let lt = parent_below p c e up in omega (arith, le, lt)))

    -- the line of a class that has a destructor is that one, and the rest behind it
    pub line_first : (x : Thing) (k : ℕ) → destructor_of p x ≡ Some k → line p cost x ≡ cost (Some k) + line_after p cost k
    unfolding role_of
    line_first x k is = grind (arith, nat_tests, first_in)

    -- and so is what is behind one
    pub line_next : (m e k : ℕ) → parent_above p m ≡ Some e → role_of p e Destruct ≡ Some k → line_after p cost m ≡ cost (Some k) + line_after p cost k
    line_next m e k above is = ap (line_from p cost) above ∙ line_first (Object e) k is
