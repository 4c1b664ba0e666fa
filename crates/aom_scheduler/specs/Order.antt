-- Items in an order, each with a number of its own, and what is done with them.
use Rattle.std.specs.Prelude.{◌≡◌, ◌≢◌, ◌<◌, ◌==◌, ℕ, suc, Bool, true, not, if◌then◌else◌, List, [], ◌∷◌, Option, Some, None, option_map, filter, All, AllPairs}

-- the list with the item after all that may stand before it
abbrev pub placed : {A : Type 0} → (A → A → Bool) → A → List A → List A
placed before x [] = x ∷ []
placed before x (y ∷ ys) = if before y x then y ∷ placed before x ys else x ∷ y ∷ ys

-- the list without the item of this number
abbrev pub without : {A : Type 0} → (A → ℕ) → ℕ → List A → List A
without number id items = filter (λ x. not (number x == id)) items

-- where the item of this number stands
abbrev pub place_of : {A : Type 0} → (A → ℕ) → ℕ → List A → Option ℕ
place_of number id [] = None
place_of number id (x ∷ xs) = if number x == id then Some 0 else option_map suc (place_of number id xs)

-- each number is below the limit and no item has another's, and each item may stand before all later ones
pub record IsOrdered {A : Type 0} (number : A → ℕ) (before : A → A → Bool) (limit : ℕ) (items : List A) : Type 0 where
  pub below : All (λ x. number x < limit) items
  pub distinct : AllPairs (λ x y. number x ≢ number y) items
  pub sorted : AllPairs (λ x y. before x y ≡ true) items
