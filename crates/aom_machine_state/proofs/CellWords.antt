-- The words of cells: what moves, goes, is made and is written leaves all others as they were.
use Rattle.std.proofs.lemmas.Bool.Decides.{nat_tests}
use Rattle.std.proofs.Common.{zero, suc, inl, inr, ◌≡◌, ℕ, ℤ, pos, false, cond, ◌==◌, ◌&&◌, List, [], ◌∷◌, Option}
use Rattle.std.proofs.Common.{Some, None, replicate, slice_index_or, refl, sym, ap, ◌∙◌, arith, ◌<◌}
use Rattle.std.specs.Prelude.{is_some}
use Rattle.std.proofs.lemmas.Bool.{cases_lt, eq-eqb, eqb-true, false≢true}
use Rattle.std.proofs.lemmas.List.{get_or_past, get_or-replicate, get_or-set_other, length-replicate}
use Rattle.aom_cells.specs.Heap.{Heap, cell_at, word_of, with_word, Changes}
use Rattle.aom_cells.specs.Heap.{word_at as cell_word}
use Rattle.aom_cells.specs.declared.cell.Cell.{Cell as Machine_cell}
use Rattle.aom_roles.specs.Tables.{at}
use Rattle.aom_semantics.specs.Places.{Place, Object, Cell, named, moved, word_field, set_word_field}
use Rattle.aom_machine_state.proofs.SemanticsLemmas.{at-set_extending, front_free}

-- a list of equal elements has that element everywhere, if it also stands for those past the end
pub all_same : {A : Type 0} (n i : ℕ) (x : A) → slice_index_or (replicate n x) i x ≡ x
all_same n i x = elim (cases_lt i
    n) [ inl within ↦ get_or-replicate n i x x within | inr past ↦ get_or_past (replicate n x) i x (let l = length-replicate n x in omega (arith, l, past)) ]

pub zeros_at : (n w : ℕ) → at (pos 0) (replicate n (pos 0)) w ≡ pos 0
zeros_at zero w = refl
zeros_at (suc n) zero = refl
zeros_at (suc n) (suc w) = zeros_at n w

pub words_moved : (cs : List Cell) (from to : Place) (n w : ℕ) → word_field (moved from to cs) n w ≡ word_field cs n w
words_moved [] from to n w = refl
words_moved (c ∷ cs) from to n w = ap (λ x. cond (c.object.name == n) (at (pos 0) c.words w) x) (words_moved cs from to n w)

-- where no cell has that name
pub words_unnamed : (cs : List Cell) (n w : ℕ) → named cs n ≡ None → word_field cs n w ≡ pos 0
words_unnamed [] n w e = refl
words_unnamed (c ∷ cs) n w e = grind (arith, nat_tests, front_free, words_unnamed cs n w)

-- a word is written, in another cell or in this one
pub words_other : (cs : List Cell) (n w : ℕ) (v : ℤ) (k x : ℕ) → (n == k) ≡ false → word_field (set_word_field n w v cs) k x ≡ word_field cs k x
words_other [] n w v k x d = refl
words_other (c ∷ cs) n w v k x d = grind (arith, nat_tests, words_other cs n w v k x d, eqb-true c.object.name n)

pub words_here : (cs : List Cell) (n w : ℕ) (v : ℤ) (x : ℕ) →
    word_field (set_word_field n w v cs) n x ≡ cond (is_some (named cs n) && (w == x)) v (word_field cs n x)
words_here [] n w v x = refl
words_here (c ∷ cs) n w v x = grind (arith, nat_tests, words_here cs n w v x, at-set_extending)

-- the machine writes a word of a cell
word_left : (c : Option Machine_cell) (w x : ℕ) (v : ℤ) → (w == x) ≡ false → word_of (with_word c w v) x ≡ word_of c x
word_left None w x v d = refl
word_left (Some c) w x v d = get_or-set_other c.words w x v (pos 0) (λ e. false≢true (sym d ∙ eq-eqb w x (sym e)))

pub words_stored : (h h' : Heap) (cs : List Cell) (n w : ℕ) (v : ℤ) (o : Object) →
    ((k x : ℕ) → k < 4096 → cell_word h k x ≡ word_field cs k x) → named cs n ≡ Some o → Changes h h' n (with_word (cell_at h n) w v) → cell_word h' n w ≡ v
    → (k x : ℕ) → k < 4096 → cell_word h' k x ≡ word_field (set_word_field n w v cs) k x
words_stored h h' cs n w v o same lives ch here k x small =
    grind (arith, nat_tests, eqb-true n k, eq-eqb n k, words_other cs n w v k x, words_here cs n w v x, eqb-true w x, word_left)
