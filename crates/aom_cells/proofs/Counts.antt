-- How many cells live follows from the finite map: a change at one number adds or takes away what lives there.
use Rattle.std.proofs.Common.{◌≡◌, ◌≢◌, ◌+◌, ℕ, zero, suc, cond, List, [], ◌∷◌, Option, Some, None, is_some, IsSome, count_by, slice_index_or, refl, ap, arith}
use Rattle.std.proofs.lemmas.Bool.{false≢true}
use Rattle.std.proofs.lemmas.List.Sums.{sum_by-cons}
use Rattle.aom_cells.specs.declared.cell.Cell.{Cell}
use Rattle.aom_cells.specs.Heap.{Heap, cell_at, Lives, count, Changes}

-- how many cells an entry has
abbrev one : {T : Type 0} → Option T → ℕ
one None = 0
one (Some x) = 1

module _ {T : Type 0} where
  count-cons : (x : Option T) (xs : List (Option T)) → count_by is_some (x ∷ xs) ≡ one x + count_by is_some xs
  count-cons None xs = sum_by-cons (λ o. cond (is_some o) 1 0) None xs
  count-cons (Some x) xs = sum_by-cons (λ o. cond (is_some o) 1 0) (Some x) xs

  -- lists with the same entry at each place have as many values
  same_counts : (xs ys : List (Option T)) → ((i : ℕ) → slice_index_or ys i None ≡ slice_index_or xs i None) → count_by is_some ys ≡ count_by is_some xs
  same_counts [] [] same = refl
  same_counts [] (y ∷ ys) same = omega (arith, count-cons y ys, ap one (same 0), same_counts [] ys (λ i. same (suc i)))
  same_counts (x ∷ xs) [] same = omega (arith, count-cons x xs, ap one (same 0), same_counts xs [] (λ i. same (suc i)))
  same_counts (x ∷ xs) (y ∷ ys) same = omega (arith, count-cons x xs, count-cons y ys, ap one (same 0), same_counts xs ys (λ i. same (suc i)))

  -- lists that differ at one place at most: the counts differ by what stands there
  changed_count : (xs ys : List (Option T)) (k : ℕ) → ((i : ℕ) → i ≢ k → slice_index_or ys i None ≡ slice_index_or xs i None)
      → count_by is_some ys + one (slice_index_or xs k None) ≡ count_by is_some xs + one (slice_index_or ys k None)
  changed_count [] [] k others = refl
  changed_count [] (y ∷ ys) zero others = omega (arith, count-cons y ys, same_counts [] ys (λ i. others (suc i) (λ e. absurd (omega (arith, e)))))
  changed_count [] (y ∷ ys) (suc k) others =
      omega (arith, count-cons y ys, ap one (others 0 (λ e. absurd (omega (arith, e)))), changed_count [] ys k (λ i differs. others (suc i) (λ e. differs (omega (arith, e)))))
  changed_count (x ∷ xs) [] zero others = omega (arith, count-cons x xs, same_counts xs [] (λ i. others (suc i) (λ e. absurd (omega (arith, e)))))
  changed_count (x ∷ xs) [] (suc k) others =
      omega (arith, count-cons x xs, ap one (others 0 (λ e. absurd (omega (arith, e)))), changed_count xs [] k (λ i differs. others (suc i) (λ e. differs (omega (arith, e)))))
  changed_count (x ∷ xs) (y ∷ ys) zero others =
      omega (arith, count-cons x xs, count-cons y ys, same_counts xs ys (λ i. others (suc i) (λ e. absurd (omega (arith, e)))))
  changed_count (x ∷ xs) (y ∷ ys) (suc k) others =
      omega (arith, count-cons x xs, count-cons y ys, ap one (others 0 (λ e. absurd (omega (arith, e)))), changed_count xs ys k (λ i differs. others (suc i) (λ e. differs (omega (arith, e)))))

-- heaps with the same cell at each number have as many cells
pub same_count : (old new : Heap) → ((n : ℕ) → cell_at new n ≡ cell_at old n) → count new ≡ count old
same_count old new same = same_counts old.slots new.slots same

-- a cell that is added where none lived
pub count_added : (old new : Heap) (id : ℕ) (cell : Cell) → cell_at old id ≡ None → Changes old new id (Some cell) → count new ≡ count old + 1
count_added old new id cell fresh ch = omega (arith, changed_count old.slots new.slots id ch.others, ap one fresh, ap one ch.here)

-- a cell that another takes the place of
pub count_rewritten : (old new : Heap) (id : ℕ) (was next : Cell) → cell_at old id ≡ Some was → Changes old new id (Some next) → count new ≡ count old
count_rewritten old new id was next there ch = omega (arith, changed_count old.slots new.slots id ch.others, ap one there, ap one ch.here)

-- a living cell that goes
pub count_removed : (old new : Heap) (id : ℕ) → Lives old id → Changes old new id None → count new + 1 ≡ count old
count_removed old new id lives ch = omega (arith, changed_count old.slots new.slots id ch.others, one_lives (cell_at old id) lives, ap one ch.here)
  where
    one_lives : (cell : Option Cell) → IsSome cell → one cell ≡ 1
    one_lives None lives = absurd (false≢true lives)
    one_lives (Some c) lives = refl

-- where none live, no number has a cell
pub none_lives : (h : Heap) → count h ≡ 0 → (n : ℕ) → cell_at h n ≡ None
none_lives h none n = in_list h.slots n none
  where
    in_list : (slots : List (Option Cell)) (k : ℕ) → count_by is_some slots ≡ 0 → slice_index_or slots k None ≡ None
    in_list [] k none = refl
    in_list (None ∷ rest) zero none = refl
    in_list (Some c ∷ rest) zero none = absurd (omega (arith, count-cons (Some c) rest))
    in_list (x ∷ rest) (suc k) none = in_list rest k (omega (arith, count-cons x rest))
