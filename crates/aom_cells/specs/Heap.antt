-- The heap as a contract sees it: a finite map from numbers to cells, and how many may live.
use Rattle.std.specs.Prelude.{◌≡◌, ◌≢◌, ◌<◌, ◌≤◌, ℕ, ℤ, pos, List, Option, Some, None, IsSome, is_some, count_by, replicate, slice_index_or, slice_set}
use Rattle.aom_cells.specs.declared.cell.Cell.{Cell}

-- the cell or nothing at each number, and how many may live
pub record Heap : Type 0 where
  pub slots : List (Option Cell)
  pub limit : ℕ

-- the number that stands for no cell
abbrev pub null : ℕ
null = 4294967295

-- the cell at a number, if one lives there
abbrev pub cell_at : Heap → ℕ → Option Cell
cell_at h id = slice_index_or h.slots id None

-- a cell lives at the number
abbrev pub Lives : Heap → ℕ → Type 0
Lives h id = IsSome (cell_at h id)

-- how many cells live
abbrev pub count : Heap → ℕ
count h = count_by is_some h.slots

-- the class of a cell
abbrev pub class_of : Option Cell → Option ℕ
class_of None = None
class_of (Some c) = Some c.class

-- the class of the cell at a number
abbrev pub class_at : Heap → ℕ → Option ℕ
class_at h id = class_of (cell_at h id)

-- what a word field holds, and 0 where there is no cell
abbrev pub word_of : Option Cell → ℕ → ℤ
word_of None w = pos 0
word_of (Some c) w = slice_index_or c.words w (pos 0)

-- what a word field of the cell at a number holds
abbrev pub word_at : Heap → ℕ → ℕ → ℤ
word_at h id w = word_of (cell_at h id) w

-- the number in an owning field, and null where there is no cell
abbrev pub field_of : Option Cell → ℕ → ℕ
field_of None f = null
field_of (Some c) f = slice_index_or c.fields f null

-- the number in an owning field of the cell at a number
abbrev pub field_at : Heap → ℕ → ℕ → ℕ
field_at h id f = field_of (cell_at h id) f

-- a cell of that class whose words are 0 and whose fields own nothing
abbrev pub blank : ℕ → Cell
blank class = record { class = class; words = replicate 8 (pos 0); fields = replicate 8 null }

-- the cell with this value in a word field
abbrev pub with_word : Option Cell → ℕ → ℤ → Option Cell
with_word None w value = None
with_word (Some c) w value = Some (record c { words = slice_set c.words w value })

-- the cell with this number in an owning field
abbrev pub with_field : Option Cell → ℕ → ℕ → Option Cell
with_field None f number = None
with_field (Some c) f number = Some (record c { fields = slice_set c.fields f number })

-- the new heap has this at the number, and all else as before
pub record Changes (old new : Heap) (id : ℕ) (cell : Option Cell) : Type 0 where
  pub here : cell_at new id ≡ cell
  pub others : (other : ℕ) → other ≢ id → cell_at new other ≡ cell_at old other
  pub limit : new.limit ≡ old.limit

-- no more cells live than may, and the numbers of those that live are below that limit, which is 4,096 at most
pub record IsBounded (h : Heap) : Type 0 where
  pub within : count h ≤ h.limit
  pub ids : (id : ℕ) → Lives h id → id < h.limit
  pub limit : h.limit ≤ 4096
