-- The least numbers that a method may have, for what it mentions, cancels and calls.
use Rattle.std.specs.Prelude.{◌≡◌, ◌≤◌, ◌↔◌, ℕ, true, List, length, IfSome, slice_get}
use Rattle.aom_image.specs.Image.{Image}
use Rattle.aom_roles.specs.Families.{descends}
use Rattle.aom_link_conditions.specs.Calls.{Mentions, MayCancel, OverridersBelow}
use Rattle.aom_link_conditions.specs.declared.orders.Orders.{Orders}

-- it holds of that number and of all above it, and of no other
abbrev pub IsLeast : ℕ → (ℕ → Type 0) → Type 0
IsLeast n P = (m : ℕ) → n ≤ m ↔ P m

-- a table of so many places has at each the least number of what is asked there
pub record AreLeast (count : ℕ) (table : List ℕ) (P : ℕ → ℕ → Type 0) : Type 0 where
  pub each : (i : ℕ) → IfSome (slice_get table i) (λ n. IsLeast n (P i))
  pub all : length table ≡ count

-- what a table says of a class and of all that descend from it
abbrev pub ReachesAll : Image → List ℕ → ℕ → ℕ → Type 0
ReachesAll p table c m = (x : ℕ) → descends p x c ≡ true → IfSome (slice_get table x) (λ n. n ≤ m)

-- the tables of an image
pub record IsOrders (p : Image) (o : Orders) : Type 0 where
  pub mentions : AreLeast 256 o.mentions.items (λ c m. Mentions p m c)
  pub cancels : AreLeast 256 o.cancels.items (λ c m. MayCancel p m c)
  pub calls : AreLeast 1024 o.calls.items (λ k m. OverridersBelow p m k)
