-- The items of the cleanup stack, the last first.
use Rattle.std.specs.Prelude.{ℕ, suc, cond, ◌==◌, ◌≤◌, List, [], ◌∷◌, length, Option, slice_get}
use Rattle.aom_cells.specs.Heap.{null}
use Rattle.aom_frames.specs.declared.item.Item.{Item}
use Rattle.aom_frames.specs.declared.item.Item.TheVariants.{Object, Operation, Mark}

-- the items, and how many entries there may be
pub record Stack : Type 0 where
  pub items : List Item
  pub depth : ℕ

-- an entry is an item that is no mark
abbrev pub IsEntry : Item → Type 0
IsEntry (Object n) = Unit {0}
IsEntry (Operation m w) = Unit {0}
IsEntry Mark = ⊥

-- how many items are entries, and how many are marks
abbrev pub entries_in : List Item → ℕ
entries_in [] = 0
entries_in (Object n ∷ is) = suc (entries_in is)
entries_in (Operation m w ∷ is) = suc (entries_in is)
entries_in (Mark ∷ is) = entries_in is

abbrev pub marks_in : List Item → ℕ
marks_in [] = 0
marks_in (Object n ∷ is) = marks_in is
marks_in (Operation m w ∷ is) = marks_in is
marks_in (Mark ∷ is) = suc (marks_in is)

-- what every stack keeps to
pub record IsWithin (s : Stack) : Type 0 where
  pub entries : entries_in s.items ≤ s.depth
  pub depth : s.depth ≤ 1024
  pub marks : marks_in s.items ≤ 256

-- an entry is last
abbrev pub IsAboveMark : List Item → Type 0
IsAboveMark [] = ⊥
IsAboveMark (i ∷ is) = IsEntry i

-- a mark is last
abbrev pub IsMarked : List Item → Type 0
IsMarked [] = ⊥
IsMarked (Object n ∷ is) = ⊥
IsMarked (Operation m w ∷ is) = ⊥
IsMarked (Mark ∷ is) = Unit {0}

-- a mark is last, or there is no item
abbrev pub IsNotAboveMark : List Item → Type 0
IsNotAboveMark [] = Unit {0}
IsNotAboveMark (i ∷ is) = IsMarked (i ∷ is)

-- the item that lies so many below the last
abbrev pub item_at : List Item → ℕ → Option Item
item_at is k = slice_get is k

-- the object that an item owns
abbrev pub owned_by : Item → ℕ
owned_by (Object n) = n
owned_by (Operation m w) = null
owned_by Mark = null

-- the object that the item owns which stands over so many others
abbrev pub entry_in : List Item → ℕ → ℕ
entry_in [] k = null
entry_in (i ∷ is) k = cond (length is == k) (owned_by i) (entry_in is k)
