-- A list as a ring of links: from the end of the list through its nodes back to the end.
use Rattle.std.specs.Prelude.{◌≡◌, ◌≤◌, ◌<◌, ◌+◌, ℕ, nat_lt, if◌then◌else◌, zero, suc, List, [], ◌∷◌, Option, Some, None, length, slice_index_or, slice_index}
use Rattle.aom_clients.specs.Lists.{IsIn, IsOnce}

-- the second comes right after the first
abbrev pub AreJoined : List ℕ → List ℕ → ℕ → ℕ → Type 0
AreJoined successors predecessors a b = (slice_index successors a ≡ b) × (slice_index predecessors b ≡ a)

-- the links lead from the first through these to the last, and back
abbrev pub IsChain : List ℕ → List ℕ → ℕ → List ℕ → ℕ → Type 0
IsChain successors predecessors a [] b = AreJoined successors predecessors a b
IsChain successors predecessors a (x ∷ xs) b = AreJoined successors predecessors a x × IsChain successors predecessors x xs b

-- so many nodes that come after this place
abbrev pub walk : List ℕ → ℕ → ℕ → List ℕ
walk successors at zero = []
walk successors at (suc n) = slice_index successors at ∷ walk successors (slice_index successors at) n

-- the nodes of each list, whose ends stand from this place on, by how many nodes each has
abbrev pub lists_from : List ℕ → ℕ → List ℕ → List (List ℕ)
lists_from successors end [] = []
lists_from successors end (count ∷ counts) = walk successors end count ∷ lists_from successors (suc end) counts

-- the place is a node's, or else the end of a list
abbrev pub node_at : ℕ → ℕ → Option ℕ
node_at nodes place = if nat_lt place nodes then Some place else None

-- so many places, each with its own number
pub record AreOwn (places : List ℕ) (count : ℕ) : Type 0 where
  pub long : length places ≡ count
  pub own : (place : ℕ) → place < count → slice_index places place ≡ place

-- each list is a ring, whose end comes after all nodes; each node knows its list, and each list its length
pub record AreCircularLists (successors predecessors : List ℕ) (owner_lists : List (Option ℕ)) (counts : List ℕ) (lists : List (List ℕ)) : Type 0 where
  pub circular_lists : (list : ℕ) → list < length counts → IsChain successors predecessors (length owner_lists + list) (slice_index_or lists list []) (length owner_lists + list)
  pub owner_list : (x list : ℕ) → IsIn x (slice_index_or lists list []) → slice_index_or owner_lists x None ≡ Some list
  pub there : (x list : ℕ) → slice_index_or owner_lists x None ≡ Some list → IsIn x (slice_index_or lists list [])
  pub once : (list : ℕ) → IsOnce (slice_index_or lists list [])
  pub counted : (list : ℕ) → slice_index counts list ≡ length (slice_index_or lists list [])
  pub every : length lists ≡ length counts
  pub successors_long : length successors ≡ length owner_lists + length counts
  pub predecessors_long : length predecessors ≡ length owner_lists + length counts
  pub few : length owner_lists + length counts ≤ 65536
