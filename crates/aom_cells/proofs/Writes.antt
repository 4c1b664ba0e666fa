-- What a write over a living cell makes of the heap, as the slab writes it: by the entry of the list that is set.
use Rattle.std.proofs.Common.{◌≡◌, ◌<◌, ◌≤◌, ℕ, List, Option, Some, None, is_some, length}
use Rattle.std.proofs.Common.{slice_index_or, slice_set, refl, sym, ap, ◌∙◌, subst, inl, inr}
use Rattle.std.proofs.lemmas.Bool.{cases_lt, false≢true}
use Rattle.std.proofs.lemmas.List.{get_or-set_same, get_or-set_other, get_or_past}
use Rattle.aom_cells.specs.declared.cell.Cell.{Cell}
use Rattle.aom_cells.specs.Heap.{Heap, cell_at, count, Changes, IsBounded}
use Rattle.aom_cells.proofs.Counts.{count_rewritten}
use Rattle.aom_cells.proofs.Laws.{bounded_after}

-- a heap by its parts
abbrev pub heap : List (Option Cell) → ℕ → Heap
heap slots limit = record { slots = slots; limit = limit }

-- a cell that is there stands within the list
within : (slots : List (Option Cell)) (k : ℕ) (was : Cell) → slice_index_or slots k None ≡ Some was → k < length slots
within slots k was there = elim (cases_lt k (length slots)) [
  | inl inside ↦ inside
  | inr past ↦ absurd (false≢true (sym (ap is_some (get_or_past slots k None past)) ∙ ap is_some there))
]

-- the write is a change at its number alone
changes_at : (slots : List (Option Cell)) (limit k : ℕ) (was next : Cell) →
    slice_index_or slots k None ≡ Some was → Changes (heap slots limit) (heap (slice_set slots k (Some next)) limit) k (Some next)
changes_at slots limit k was next there = record {
  here = get_or-set_same slots k (Some next) None (within slots k was there);
  others = λ other differs. get_or-set_other slots k other (Some next) None differs;
  limit = refl;
}

-- so it is where the heap and the number go by other names, and the new cell is made of the old one
pub changes_written : (slots : List (Option Cell)) (limit k id : ℕ) (now : Heap) (was next : Cell) (made : Option Cell → Option Cell) →
    heap slots limit ≡ now → k ≡ id → slice_index_or slots k None ≡ Some was → Some next ≡ made (Some was) →
    Changes now (heap (slice_set slots k (Some next)) limit) id (made (cell_at now id))
changes_written slots limit k id now was next made same number there is =
    subst (λ h. Changes h after id (made (cell_at h id))) same
    (subst (λ i. Changes before after i (made (cell_at before i))) number
    (subst (λ cell. Changes before after k cell) (is ∙ ap made (sym there)) (changes_at slots limit k was next there)))
  where
    before : Heap
    before = heap slots limit

    after : Heap
    after = heap (slice_set slots k (Some next)) limit

-- what is read at the number is read of the new cell
pub read_written : {A : Type 0} (read : Option Cell → A) (slots : List (Option Cell)) (limit k id : ℕ) (was next : Cell) → k ≡ id →
    slice_index_or slots k None ≡ Some was → read (cell_at (heap (slice_set slots k (Some next)) limit) id) ≡ read (Some next)
read_written read slots limit k id was next number there = ap (λ i. read (slice_index_or (slice_set slots k (Some next)) i None)) (sym number)
    ∙ ap read (get_or-set_same slots k (Some next) None (within slots k was there))

-- as many cells live
pub count_written : (slots : List (Option Cell)) (limit k : ℕ) (now : Heap) (was next : Cell) → heap slots limit ≡ now → slice_index_or slots k None ≡ Some was
    → count (heap (slice_set slots k (Some next)) limit) ≡ count now
count_written slots limit k now was next same there = count_rewritten (heap slots limit) _ k was next there (changes_at slots limit k was next there) ∙ ap count same

-- and the heap stays bounded
pub bounded_written : (slots : List (Option Cell)) (limit k : ℕ) (was next : Cell) →
    IsBounded (heap slots limit) → slice_index_or slots k None ≡ Some was → IsBounded (heap (slice_set slots k (Some next)) limit)
bounded_written slots limit k was next bounded there = bounded_after (heap slots limit) (heap (slice_set slots k (Some next)) limit) k (Some next) bounded
    (changes_at slots limit k was next there) (bounded.ids k (ap is_some there)) (subst (λ n. n ≤ limit) (sym (count_rewritten (heap slots limit)
    (heap (slice_set slots k (Some next)) limit) k was next there (changes_at slots limit k was next there))) bounded.within)
