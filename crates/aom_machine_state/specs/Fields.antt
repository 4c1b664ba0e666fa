-- What a method works on: its cell, or the root where it has none.
use Rattle.std.specs.Prelude.{ℕ, ℤ, ◌≡◌, ◌≢◌, ◌⊎◌, cond, ◌==◌}
use Rattle.aom_cells.specs.Heap.{Heap, null, cell_at, Lives, word_at, field_at, with_word, with_field, count, Changes}
use Rattle.aom_frames.specs.Tasks.{this_here}
use Rattle.aom_machine_state.specs.declared.parts.Parts.{Parts}

-- the cell of the method that runs
abbrev pub this : Parts → ℕ
this m = this_here m.stack.tasks

-- it lives, if there is one
abbrev pub ThisLives : Parts → Type 0
ThisLives m = this m ≢ null → Lives m.cells (this m)

-- the number in a field
abbrev pub field_here : ℕ → Parts → ℕ
field_here f m = cond (this m == null) m.root (field_at m.cells (this m) f)

-- a word of a cell is written
pub record PutsWord (n w : ℕ) (v : ℤ) (old new : Heap) : Type 0 where
  pub changed : Changes old new n (with_word (cell_at old n) w v)
  pub here : word_at new n w ≡ v
  pub count : count new ≡ count old

-- the number in a field of a cell is written
pub record PutsField (n f x : ℕ) (old new : Heap) : Type 0 where
  pub changed : Changes old new n (with_field (cell_at old n) f x)
  pub here : field_at new n f ≡ x
  pub count : count new ≡ count old

-- a field has another number, and nothing else changes
abbrev pub WritesField : ℕ → ℕ → Parts → Parts → Type 0
WritesField f x old new =
    ((this old ≡ null) × (new ≡ record old { root = x }))
    ⊎ ((this old ≢ null) × PutsField (this old) f x old.cells new.cells × (new ≡ record old { cells = new.cells }))
