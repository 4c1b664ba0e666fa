-- Tables of the greatest numbers, each made by raising it: over what a call of a method may run, and over what may stand for a class.
use Rattle.std.specs.Prelude.{ℕ, ◌≡◌, Bool, ◌==◌, ◌||◌, max, List, [], ◌∷◌, length, Some}
use Rattle.aom_image.specs.Image.{Image}
use Rattle.aom_link_conditions.specs.Overriding.{overrides}
use Rattle.aom_static_bounds.specs.Calls.{bodies, cancels, destructors}
use Rattle.aom_roles.specs.Tables.{at}

-- a call of a method may run it
abbrev pub is_body : Image → (k m : ℕ) → Bool
is_body p k m = (k == m) || overrides p k m

-- the greatest number that a table has for those methods
abbrev pub most_at : List ℕ → List ℕ → ℕ
most_at table [] = 0
most_at table (k ∷ ks) = max (at 0 table k) (most_at table ks)

-- a table of so many that says of each number the greatest of the methods listed for it
pub record IsGreatest (count : ℕ) (lists : ℕ → List ℕ) (numbers table : List ℕ) : Type 0 where
  pub size : length table ≡ count
  pub each : (k : ℕ) → at 0 table k ≡ most_at numbers (lists k)

-- over all that a call of each method may run
abbrev pub IsCalled : Image → (numbers table : List ℕ) → Type 0
IsCalled p = IsGreatest (length p.methods) (bodies p)

-- over all that may cancel the request of what counts as an object of each class
abbrev pub IsCancelled : Image → (numbers table : List ℕ) → Type 0
IsCancelled p = IsGreatest (length p.classes) (λ c. cancels p (Some c))

-- over all that may run as what is declared of each class goes
abbrev pub IsGone : Image → (numbers table : List ℕ) → Type 0
IsGone p = IsGreatest (length p.classes) (λ c. destructors p (Some c))
