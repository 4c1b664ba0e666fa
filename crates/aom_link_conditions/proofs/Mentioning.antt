-- What a method mentions and cancels has its own destructors and cancel methods before it.
use Rattle.std.proofs.lemmas.Bool.Decides.{nat_tests}
use Rattle.std.proofs.Common.{arith, ◌≡◌, ◌<◌, ℕ, IsTrue, Option, Some, None, IfSome, refl, subst, ◌∙◌, ap, true}
use Rattle.std.proofs.lemmas.Bool.{eq-eqb}
use Rattle.aom_image.specs.Image.{Image}
use Rattle.aom_image.specs.Views.{method_at}
use Rattle.aom_image.specs.declared.method.Role.TheVariants as roles
use Rattle.aom_link_conditions.proofs.RolesLemmas.{itself}
use Rattle.aom_link_conditions.specs.Calls.{GoesBelow, MayCancel}
use Rattle.aom_link_conditions.specs.Roles.{is_class, own_role, fills_role, role_of, same_role}
use Rattle.aom_link_conditions.proofs.Each.{join}
use Rattle.aom_link_conditions.proofs.Playing.{found, role_inherits}

-- the method that an object is cancelled by
pub cancels_own : (p : Image) (m c : ℕ) → MayCancel p m c → IfSome (role_of p c roles.Cancel) (λ k. k < m)
unfolding role_of own_role
cancels_own p m c h = grind (arith, nat_tests, itself p c, found)

-- the destructor that an object of the class has comes before what the going of such an object comes before
pub goes_role : (p : Image) (m c : ℕ) → GoesBelow p m c → IfSome (role_of p c roles.Destruct) (λ k. k < m)
unfolding method_at fills_role
goes_role p m c h = go (role_of p c roles.Destruct) refl
  where
    go : (o : Option ℕ) → role_of p c roles.Destruct ≡ o → IfSome o (λ k. k < m)
    go None is = tt
    go (Some k) is =
        let w = role_inherits p c k roles.Destruct is in
        let class : is_class w.class w.method.class ≡ true = ap (is_class w.class) w.of ∙ eq-eqb w.class w.class refl in
        let role : same_role w.method.role roles.Destruct ≡ true = grind (arith, nat_tests, eq-eqb) in
        (subst (λ o. IfSome o (λ d. IsTrue (fills_role w.class roles.Destruct d) → k < m)) w.there (h w.class w.family k))
        (join (is_class w.class w.method.class) (same_role w.method.role roles.Destruct) class role)
