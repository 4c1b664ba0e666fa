-- What calls run, in tables.
use Rattle.std.specs.Prelude.{◌≡◌, ◌≤◌, ◌&&◌, ℕ, All, Bool, false, is_some, List, length, slice_get, Option, Some, None, IfSome}
use Rattle.aom_image.specs.Image.{Image}
use Rattle.aom_image.specs.declared.method.Method.{Method}
use Rattle.aom_roles.specs.Families.{parent_of}
use Rattle.aom_link_conditions.specs.Overriding.{body_of}
use Rattle.aom_link_conditions.specs.Roles.{is_class}

-- what a call of m runs on an object of the parent of a class, and m itself where there is none
abbrev pub body_above : Image → ℕ → ℕ → ℕ
body_above p m c = body_of p m (parent_of p c)

-- a method is of that class and overrides another
abbrev pub overrides_in : ℕ → Method → Bool
overrides_in c d = is_class c d.class && is_some d.over

-- no method of that class overrides another
abbrev pub OverridesNothingIn : Image → ℕ → Type 0
OverridesNothingIn p c = All (λ d. overrides_in c d ≡ false) p.methods

-- for each method a number
pub record IsEach (p : Image) (f : ℕ → ℕ) (row : List ℕ) : Type 0 where
  pub size : length row ≡ length p.methods
  pub each : (m : ℕ) → IfSome (slice_get row m) (λ k. k ≡ f m)

-- what a call of each method runs on an object of a class
abbrev pub IsRow : Image → ℕ → List ℕ → Type 0
IsRow p c row = IsEach p (λ m. body_of p m (Some c)) row

-- a row; or there is none, and each call runs the method named
abbrev pub IsRowOf : Image → ℕ → Option (List ℕ) → Type 0
IsRowOf p c None = (m : ℕ) → body_of p m (Some c) ≡ m
IsRowOf p c (Some row) = IsRow p c row

-- what a call of each method runs, by classes; on a class that is not there it runs the method named
pub record AreBodies (p : Image) (rows : List (Option (List ℕ))) : Type 0 where
  pub size : length rows ≡ length p.classes
  pub each : (c : ℕ) → IfSome (slice_get rows c) (IsRowOf p c)
  pub others : (m c : ℕ) → length p.classes ≤ c → body_of p m (Some c) ≡ m
