-- The table of roles.
use Rattle.std.specs.Prelude.{◌≡◌, ◌≤◌, ℕ, List, length, Option, Some, None, IfSome, slice_get}
use Rattle.aom_image.specs.Image.{Image}
use Rattle.aom_image.specs.declared.method.Role.{Role}
use Rattle.aom_link_conditions.specs.Roles.{role_number, role_of}

-- the method of a role of a class, if there is one
abbrev pub role_from : Image → Role → Option ℕ → Option ℕ
role_from p r None = None
role_from p r (Some c) = role_of p c r

-- a row has the method of each role of a class
abbrev pub IsRow : Image → ℕ → List (Option ℕ) → Type 0
IsRow p c row = (r : Role) → slice_get row (role_number r) ≡ Some (role_of p c r)

-- a table has a row for each class, and no other class has a method
pub record IsTable (p : Image) (table : List (List (Option ℕ))) : Type 0 where
  pub rows : (c : ℕ) → IfSome (slice_get table c) (IsRow p c)
  pub others : (c : ℕ) (r : Role) → length table ≤ c → role_of p c r ≡ None
