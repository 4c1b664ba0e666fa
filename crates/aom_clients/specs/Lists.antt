-- Lists of nodes, both told by number.
use Rattle.std.specs.Prelude.{◌≡◌, ◌⊎◌, ◌==◌, ◌<◌, ℕ, not, if◌then◌else◌, List, [], ◌∷◌, Option, Some, None, filter, slice_index_or, slice_set, replicate}

-- the nodes of each list, the first first, and the number below which nodes are
pub record Table : Type 0 where
  pub lists : List (List ℕ)
  pub nodes : ℕ

-- so many lists with no node
abbrev pub empty : ℕ → ℕ → Table
empty nodes lists = record { lists = replicate lists []; nodes = nodes }

-- the list of that number
abbrev pub list_at : Table → ℕ → List ℕ
list_at t list = slice_index_or t.lists list []

-- the node is among these
abbrev pub IsIn : ℕ → List ℕ → Type 0
IsIn x [] = ⊥
IsIn x (y ∷ ys) = (y ≡ x) ⊎ IsIn x ys

-- no node comes twice
abbrev pub IsOnce : List ℕ → Type 0
IsOnce [] = Unit {0}
IsOnce (x ∷ xs) = (IsIn x xs → ⊥) × IsOnce xs

-- the node is in no list
pub record IsFree (t : Table) (x : ℕ) : Type 0 where
  pub nowhere : (list : ℕ) → IsIn x (list_at t list) → ⊥

-- the table with that list under its number
abbrev pub with_list : ℕ → List ℕ → Table → Table
with_list list xs t = record t { lists = slice_set t.lists list xs }

-- the nodes but this one
abbrev pub without : ℕ → List ℕ → List ℕ
without x xs = filter (λ y. not (y == x)) xs

-- the node that comes first
abbrev pub first_of : List ℕ → Option ℕ
first_of xs = elim xs [ [] ↦ None | y ∷ ys ↦ Some y ]

-- the nodes after the first
abbrev pub rest_of : List ℕ → List ℕ
rest_of xs = elim xs [ [] ↦ [] | y ∷ ys ↦ ys ]

-- the node that comes after this one
abbrev pub after_node : ℕ → List ℕ → Option ℕ
after_node x [] = None
after_node x (y ∷ ys) = if y == x then first_of ys else after_node x ys

-- a node is in one list at most, and there once
pub record IsSound (t : Table) : Type 0 where
  pub below : (x list : ℕ) → IsIn x (list_at t list) → x < t.nodes
  pub apart : (x list other : ℕ) → IsIn x (list_at t list) → IsIn x (list_at t other) → list ≡ other
  pub once : (list : ℕ) → IsOnce (list_at t list)
