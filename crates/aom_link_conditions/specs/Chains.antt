-- What each class has in the place of each method, in tables.
use Rattle.std.specs.Prelude.{◌≡◌, ◌<◌, ◌≤◌, ℕ, IfSome, IsTrue, List, Option, Some, None, length, slice_get}
use Rattle.aom_image.specs.Image.{Image}
use Rattle.aom_link_conditions.specs.Orders.{IsLeast}
use Rattle.aom_link_conditions.specs.Overriding.{OverriddenOnce, overrider_of, replaces}

-- the number of a method; above those of all where there is none
abbrev pub number_or_none : Option ℕ → ℕ
number_or_none None = 1024
number_or_none (Some k) = k

-- what a class has in the place of each method
pub record AreOverriders (p : Image) (c : ℕ) (table : List ℕ) : Type 0 where
  pub size : length table ≡ 1024
  pub each : (m n : ℕ) → slice_get table m ≡ Some n → n ≡ number_or_none (overrider_of p c m)

-- the least number above all methods of a class that override each method
pub record AreLast (p : Image) (c : ℕ) (table : List ℕ) : Type 0 where
  pub size : length table ≡ 1024
  pub each : (m n : ℕ) → slice_get table m ≡ Some n → IsLeast n (λ b. (k : ℕ) → IfSome (slice_get p.methods k) (λ d. IsTrue (replaces p c m d) → k < b))

-- what overrides a method in that class is the first there that does
abbrev pub OnceIn : Image → ℕ → ℕ → Type 0
OnceIn p c m = (k : ℕ) → IfSome (slice_get p.methods k) (λ d. IsTrue (replaces p c m d) → overrider_of p c m ≡ Some k)

-- the first method that a class overrides twice; the count of methods where there is none
pub record FirstTwiceIn (p : Image) (c n : ℕ) : Type 0 where
  pub within : n ≤ length p.methods
  pub before : (m : ℕ) → m < n → OnceIn p c m
  pub twice : n < length p.methods → ¬ OnceIn p c n

-- the first method that some class overrides twice
pub record FirstTwice (p : Image) (n : ℕ) : Type 0 where
  pub within : n ≤ length p.methods
  pub before : (m : ℕ) → m < n → OverriddenOnce p m
  pub twice : n < length p.methods → ¬ OverriddenOnce p n
