-- Which method has a role.
use Rattle.std.specs.Prelude.{ℕ, zero, suc, Bool, true, false, ◌&&◌, cond, nat_eq, Option, Some, None, is_some, position}
use Rattle.aom_image.specs.Image.{Image}
use Rattle.aom_image.specs.declared.method.Method.{Method}
use Rattle.aom_image.specs.declared.method.Role.{Role}
use Rattle.aom_image.specs.declared.method.Role.TheVariants.{Construct, Destruct, Run, Cancel, Error, Main}
use Rattle.aom_image.specs.declared.method.Thing.{Thing}
use Rattle.aom_image.specs.declared.method.Thing.TheVariants.{Object, Message}
use Rattle.aom_roles.specs.Families.{parent_of}
unfoldable pub use Rattle.aom_roles.specs.Roles.{role_number}
pub use Rattle.aom_roles.specs.Roles.{same_role}

-- the first, or where there is none the second
abbrev pub or_else : {A : Type 0} → Option A → Option A → Option A
or_else None other = other
or_else (Some x) other = Some x

-- whether a method's class is that one
abbrev pub is_class : ℕ → Option ℕ → Bool
is_class c None = false
is_class c (Some d) = nat_eq d c

-- whether a method is of that class and has that role
unfoldable pub fills_role : ℕ → Role → Method → Bool
fills_role c r m = is_class c m.class && same_role m.role r

-- the first method of that class itself with that role
unfoldable pub own_role : Image → ℕ → Role → Option ℕ
own_role p c r = position (fills_role c r) p.methods

-- the class with such a method, the nearest of so many generations above
unfoldable pub keeper_in : Image → ℕ → Option ℕ → Role → Option ℕ
keeper_in p n None r = None
keeper_in p zero (Some c) r = cond (is_some (own_role p c r)) (Some c) None
keeper_in p (suc n) (Some c) r = cond (is_some (own_role p c r)) (Some c) (keeper_in p n (parent_of p c) r)

-- the class, or the nearest that it descends from, which has a method with that role itself
abbrev pub keeper_of : Image → ℕ → Role → Option ℕ
keeper_of p c r = keeper_in p c (Some c) r

-- roles that a class without a method of its own has from its parent
abbrev pub is_inherited : Role → Bool
is_inherited Construct = true
is_inherited Destruct = true
is_inherited Run = true
is_inherited Cancel = true
is_inherited Error = true
is_inherited _ = false

abbrev pub role_by : Image → Role → Option ℕ → Option ℕ
role_by p r None = None
role_by p r (Some keeper) = own_role p keeper r

-- the first method with that role, of the class itself or of the nearest that it has the role from
unfoldable pub role_of : Image → ℕ → Role → Option ℕ
role_of p c r = cond (is_inherited r) (role_by p r (keeper_of p c r)) (own_role p c r)

-- the method that runs as an object is destroyed
abbrev pub destructor_of : Image → Thing → Option ℕ
destructor_of p (Object c) = role_of p c Destruct
destructor_of p Message = None

-- whether a method is main
abbrev pub is_main : Method → Bool
is_main m = same_role m.role Main

-- the first method with the role main
unfoldable pub main_of : Image → Option ℕ
main_of p = position is_main p.methods
