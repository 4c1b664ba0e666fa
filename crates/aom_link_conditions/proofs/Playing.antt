-- What is known of the methods that the searches by role answer.
use Rattle.std.proofs.lemmas.Bool.Decides.{nat_tests}
use Rattle.std.proofs.Common.{◌≡◌, ◌∙◌, ℕ, List, [], ◌∷◌, Bool, true, false, cond, Option, Some, slice_get, get_or, position, sym, ap, arith}
use Rattle.std.proofs.lemmas.Bool.{eqb-true}
use Rattle.std.proofs.lemmas.Option.{slice_get-get_or}
use Rattle.std.proofs.lemmas.List.Quantifiers.{position-Some}
use Rattle.aom_image.specs.Image.{Image}
use Rattle.aom_image.specs.Views.{method_at}
use Rattle.aom_image.specs.declared.method.Method.{Method}
use Rattle.aom_image.specs.declared.method.Role.{Role}
use Rattle.aom_image.specs.declared.method.Role.TheVariants.{Do, Main, Construct, Destruct, Run, Cancel, Error, Accept, Service, Undo}
use Rattle.aom_link_conditions.specs.Roles.{destructor_of, is_class, is_inherited, is_main, keeper_of, main_of, own_role, fills_role, role_by, role_number, role_of}
use Rattle.aom_link_conditions.specs.Roles.{same_role}
use Rattle.aom_link_conditions.proofs.Each.{both}
use Rattle.aom_link_conditions.proofs.Keeping.{keeper_found, role_alone}
use Rattle.aom_link_conditions.proofs.RolesLemmas.{itself}
use Rattle.aom_roles.specs.Families.{HasNoParents, descends}
use Rattle.aom_link_conditions.proofs.ImageLemmas.{cons_given, some_given}
use Rattle.aom_image.specs.declared.method.Thing.{Thing}
use Rattle.aom_image.specs.declared.method.Thing.TheVariants.{Object}

-- the roles by their numbers
roles : List Role
roles = Do ∷ Main ∷ Construct ∷ Destruct ∷ Run ∷ Cancel ∷ Error ∷ Accept ∷ Service ∷ Undo ∷ []

at_number : (r : Role) → slice_get roles (role_number r) ≡ Some r
unfolding roles role_number
at_number x = grind arith

-- roles of one number are one
pub same_roles : (a b : Role) → same_role a b ≡ true → a ≡ b
same_roles a b e = grind (arith, nat_tests, eqb-true, at_number a, roles, at_number b)

-- a place that a search answers has an element that passes
pub found : {X : Type 0} (test : X → Bool) (xs : List X) (k : ℕ) → position test xs ≡ Some k → (x : X) × (slice_get xs k ≡ Some x) × (test x ≡ true)
found test xs k e = cons_given (λ ys. position test ys ≡ Some k) xs e (λ none. cc) (λ x rest is f.
    let w = position-Some test xs k x e in (get_or xs k x, slice_get-get_or xs k x w.0, w.1))

-- main is a method
pub main_found : (p : Image) (m : ℕ) → main_of p ≡ Some m → (d : Method) × (method_at p m ≡ Some d) × (d.role ≡ Main)
unfolding main_of method_at
main_found p m e = let w = found is_main p.methods m e in (w.0, w.1, same_roles w.0.role Main w.2)

pub class_is : (c : ℕ) (own : Option ℕ) → is_class c own ≡ true → own ≡ Some c
class_is c own e = some_given (λ o. is_class c o ≡ true) own e (λ none. cc) (λ k is same. is ∙ ap (λ n. Some n) (eqb-true k c same))

-- and what plays a role in a class itself is one of its methods
pub own_found : (p : Image) (c m : ℕ) (r : Role) → own_role p c r ≡ Some m → (d : Method) × (method_at p m ≡ Some d) × (d.class ≡ Some c) × (d.role ≡ r)
unfolding own_role method_at fills_role
own_found p c m r e = grind (arith, nat_tests, found, both, class_is c, same_roles)

-- the method of a role is there, in that role, of a class that the class descends from
pub record Inherits (p : Image) (c m : ℕ) (r : Role) : Type 0 where
  pub method : Method
  pub there : method_at p m ≡ Some method
  pub class : ℕ
  pub of : method.class ≡ Some class
  pub role : method.role ≡ r
  pub family : descends p c class ≡ true

pub role_inherits : (p : Image) (c m : ℕ) (r : Role) → role_of p c r ≡ Some m → Inherits p c m r
unfolding role_of
role_inherits p c m r e = go (is_inherited r) e
  where
    own : (y : ℕ) → descends p c y ≡ true → own_role p y r ≡ Some m → Inherits p c m r
    own y family is = let w = own_found p y m r is in record { method = w.0; there = w.1; class = y; of = w.2; role = w.3; family = family }

    go : (b : Bool) → cond b (role_by p r (keeper_of p c r)) (own_role p c r) ≡ Some m → Inherits p c m r
    go true is = some_given (λ o. role_by p r o ≡ Some m) (keeper_of p c r) is (λ none. cc) (λ y at rest. own y (keeper_found p r c y at).0 rest)
    go false is = own c (itself p c) is

-- in an image without parents it is one of the class's own
pub role_found : (p : Image) → HasNoParents p → (c m : ℕ) (r : Role) → role_of p c r ≡ Some m →
    (d : Method) × (method_at p m ≡ Some d) × (d.class ≡ Some c) × (d.role ≡ r)
role_found p none c m r e = own_found p c m r (sym (role_alone p r none c) ∙ e)

-- what is destroyed by a method is an object, and the method its class's destructor
pub destroyed : (p : Image) (x : Thing) (m : ℕ) → destructor_of p x ≡ Some m → (c : ℕ) × (x ≡ Object c) × (role_of p c Destruct ≡ Some m)
destroyed p x m e = grind arith
