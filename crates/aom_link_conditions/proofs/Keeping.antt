-- Which class keeps the method of a role for a class: the class itself, or the nearest above it.
use Rattle.std.proofs.lemmas.Bool.Decides.{nat_tests}
use Rattle.std.proofs.Common.{◌≡◌, ◌<◌, ◌≤◌, ℕ, length, zero, suc, true, false, Option, Some, None, IfSome, IsSome, IsTrue, Bool, List, cond, is_some, slice_get, slice_index_or, ap, subst, sym, ◌∙◌, ◌↔◌}
use Rattle.std.proofs.Common.{refl, arith}
use Rattle.aom_link_conditions.proofs.ImageLemmas.{some_given}
use Rattle.std.proofs.lemmas.Option.{slice_get-get_or, slice_get_within}
use Rattle.aom_image.specs.Image.{Image}
use Rattle.aom_image.specs.Views.{class_at}
use Rattle.aom_image.specs.declared.method.Role.{Role}
use Rattle.aom_roles.specs.Families.{HasNoParents, descends, parent_in, parent_of}
use Rattle.aom_link_conditions.proofs.RolesLemmas.{child, fewer, itself, no_parent, none_below, parent_below}
use Rattle.aom_link_conditions.specs.Roles.{is_inherited, keeper_in, keeper_of, own_role, role_by, role_of}

pub no_method : (o : Option ℕ) → is_some o ≡ false → o ≡ None
no_method x none = grind arith

module _ (p : Image) where
  -- a class with a parent is there
  pub child_there : (c e : ℕ) → parent_of p c ≡ Some e → c < length p.classes
  unfolding parent_in class_at
  child_there c e is = grind (arith, nat_tests, slice_get_within p.classes c)

  pub none_kept : (n : ℕ) (r : Role) → keeper_in p n None r ≡ None
  unfolding keeper_in
  none_kept x r = grind arith

  module _ (r : Role) where
    pub keeper_own : (c k : ℕ) → own_role p c r ≡ Some k → keeper_of p c r ≡ Some c
    unfolding keeper_in
    keeper_own x k is = grind arith

    kept_last : (n c : ℕ) → c ≤ 0 → cond (is_some (own_role p c r)) (Some c) (keeper_in p n (parent_of p c) r) ≡ cond (is_some (own_role p c r)) (Some c) None
    kept_last n c le = grind (arith, nat_tests, none_below p, none_kept n r)

    -- more generations change nothing
    kept_enough : (n m : ℕ) (o : Option ℕ) → IfSome o (λ c. c ≤ n) → IfSome o (λ c. c ≤ m) → keeper_in p n o r ≡ keeper_in p m o r
    unfolding keeper_in
    kept_enough (suc n) (suc m) (Some c) a b = ap (λ x. cond (is_some (own_role p c r)) (Some c) x) (kept_enough n m (parent_of p c) (fewer p c n a) (fewer p c m b))
    kept_enough x y z a b = grind (arith, nat_tests, kept_last)

    pub keeper_up : (c e : ℕ) → own_role p c r ≡ None → parent_of p c ≡ Some e → keeper_of p c r ≡ keeper_of p e r
    unfolding keeper_in
    keeper_up x e none is = grind (arith, nat_tests, parent_below, kept_enough)

    pub keeper_none : (c : ℕ) → own_role p c r ≡ None → parent_of p c ≡ None → keeper_of p c r ≡ None
    unfolding keeper_in
    keeper_none x none is = grind (arith, nat_tests, none_kept)

    -- the class that keeps it is one that the class descends from, and has a method itself
    kept_found : (n c y : ℕ) → keeper_in p n (Some c) r ≡ Some y → (descends p c y ≡ true) × IsSome (own_role p y r)
    unfolding keeper_in
    kept_found zero c y is = grind (arith, nat_tests, itself p c)
    kept_found (suc n) c y is = go (own_role p c r) refl is (λ e rest. kept_found n e y rest)
      where
        go : (o : Option ℕ) → own_role p c r ≡ o → cond (is_some o) (Some c) (keeper_in p n (parent_of p c) r) ≡ Some y → ((e : ℕ) →
            keeper_in p n (Some e) r ≡ Some y → (descends p e y ≡ true) × IsSome (own_role p y r)) → (descends p c y ≡ true) × IsSome (own_role p y r)
        go x e z later = grind (arith, nat_tests, itself, some_given, none_kept, child)

    pub keeper_found : (c y : ℕ) → keeper_of p c r ≡ Some y → (descends p c y ≡ true) × IsSome (own_role p y r)
    keeper_found c y is = kept_found c c y is

    -- what is found in the class itself
    pub here_kept : (c : ℕ) (found : Option ℕ) → found ≡ own_role p c r → is_some found ≡ true → found ≡ role_by p r (keeper_of p c r)
    here_kept c x is some = grind (arith, nat_tests, keeper_own c)

    -- a class that is not there has no method in a role
    pub none_there : (c : ℕ) → length p.classes ≤ c → own_role p c r ≡ None → role_of p c r ≡ None
    unfolding role_of
    none_there c past none = grind (arith, nat_tests, child_there c, keeper_none c none)

    -- in an image without parents each class keeps its own
    pub role_alone : HasNoParents p → (c : ℕ) → role_of p c r ≡ own_role p c r
    unfolding role_of
    role_alone none c = grind (arith, nat_tests, no_parent p none c, keeper_none c, keeper_own c)

-- what a class has of a role: its own, or what its parent has
module _ (p : Image) (c : ℕ) (r : Role) where
  own_kept : (k : ℕ) → own_role p c r ≡ Some k → own_role p c r ≡ role_of p c r
  unfolding role_of
  own_kept k is = go (is_inherited r)
    where
      go : (b : Bool) → own_role p c r ≡ cond b (role_by p r (keeper_of p c r)) (own_role p c r)
      go false = refl
      go true = ap (role_by p r) (sym (keeper_own p r c k is))

  pub role_found : (own : Option ℕ) → own ≡ own_role p c r → is_some own ≡ true → own ≡ role_of p c r
  role_found None e none = absurd (cc)
  role_found (Some k) e some = e ∙ own_kept k (sym e)

  pub role_not_inherited : is_inherited r ≡ false → own_role p c r ≡ role_of p c r
  unfolding role_of
  role_not_inherited other = ap (λ b. cond b (role_by p r (keeper_of p c r)) (own_role p c r)) (sym other)

  pub role_up : (e : ℕ) → own_role p c r ≡ None → is_inherited r ≡ true → parent_of p c ≡ Some e → role_of p e r ≡ role_of p c r
  unfolding role_of
  role_up e none so is = ap (λ b. cond b (role_by p r (keeper_of p e r)) (own_role p e r)) so ∙ ap (role_by p r) (sym (keeper_up p r c e none is))
      ∙ ap (λ b. cond b (role_by p r (keeper_of p c r)) (own_role p c r)) (sym so)

  pub role_nowhere : own_role p c r ≡ None → is_inherited r ≡ true → parent_of p c ≡ None → role_of p c r ≡ None
  unfolding role_of
  role_nowhere none so is = ap (λ b. cond b (role_by p r (keeper_of p c r)) (own_role p c r)) so ∙ ap (role_by p r) (keeper_none p r c none is)

-- what a test of a class says, where it has a method itself, and where it has none
pub kept_own : (p : Image) (c : ℕ) (r : Role) (own : Option ℕ) → own ≡ own_role p c r → is_some own ≡ true → IsTrue true ↔ IsSome (role_of p c r)
kept_own p c r own e some = (λ _. rw (← role_found p c r own e some) some, λ _. refl)

pub kept_above : (p : Image) (c d : ℕ) (r : Role) (flag : Bool) → own_role p c r ≡ None → is_inherited r ≡ true → parent_of p c ≡ Some d →
    IsTrue flag ↔ IsSome (role_of p d r) → IsTrue flag ↔ IsSome (role_of p c r)
kept_above p c d r flag none so is h = rw (role_up p c r d none so is) at h

pub kept_nowhere : (p : Image) (c : ℕ) (r : Role) → own_role p c r ≡ None → is_inherited r ≡ true → parent_of p c ≡ None → IsTrue false ↔ IsSome (role_of p c r)
kept_nowhere p c r none so is = rw (role_nowhere p c r none so is) (λ f. absurd (cc), λ f. absurd (cc))

-- what is read of a table of such tests
pub read_kept : (p : Image) (flags : List Bool) (d i : ℕ) (r : Role) → i ≡ d → d < length flags →
    ((c : ℕ) → IfSome (slice_get flags c) (λ b. IsTrue b ↔ IsSome (role_of p c r))) → IsTrue (slice_index_or flags i false) ↔ IsSome (role_of p d r)
read_kept p flags d i r same lt each =
    let there : slice_get flags d ≡ Some (slice_index_or flags d false) = slice_get-get_or flags d false lt in
    let here : IfSome (Some (slice_index_or flags d false)) (λ b. IsTrue b ↔ IsSome (role_of p d r)) =
    subst (λ o. IfSome o (λ b. IsTrue b ↔ IsSome (role_of p d r))) there (each d) in
    subst (λ j. IsTrue (slice_index_or flags j false) ↔ IsSome (role_of p d r)) (sym same) here
