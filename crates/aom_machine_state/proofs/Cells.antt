-- The machine's cells, where owners move and where a cell goes.
use Rattle.std.proofs.lemmas.Bool.Decides.{nat_tests}
use Rattle.std.proofs.Common.{◌≡◌, ℕ, ◌+◌, Bool, true, false, cond, not, ◌==◌, List, [], ◌∷◌, Some, None, refl, sym, ap, ◌∙◌, arith, subst, ◌<◌, ◌≤◌}
use Rattle.std.specs.Prelude.{IsSome}
use Rattle.std.proofs.lemmas.Bool.{eqb-true, eq-eqb, false≢true, false_from_ne_true, not-true}
use Rattle.aom_image.specs.Image.{Image}
use Rattle.aom_roles.specs.Things.{is_object}
use Rattle.aom_cells.specs.declared.cell.Cell.{Cell as Machine_cell}
use Rattle.aom_cells.specs.Heap.{Heap, cell_at, word_of, count, Changes}
use Rattle.aom_semantics.specs.Places.{Place, Object, Cell, count_cells, held, named, moved, without, NoDuplicates, word_field}
use Rattle.aom_machine_state.proofs.SafetyLemmas.{count_moved, count_without, counted_in}
use Rattle.aom_machine_state.proofs.SemanticsLemmas.{named_moved, named_without, same_place-true, unnamed, without_none}
use Rattle.aom_machine_state.specs.Agrees.{SameCells, thing_in, thing_of}
use Rattle.aom_machine_state.proofs.Values.{cases}
use Rattle.aom_machine_state.proofs.CellWords.{words_moved, words_unnamed}

-- the machine has the cell of an object
pub class_reported : (p : Image) (h : Heap) (cs : List Cell) (n : ℕ) (o : Object) → SameCells p h cs → named cs n ≡ Some o → is_object o.thing ≡ true →
    thing_in (cell_at h n) ≡ Some o.thing
class_reported p h cs n o same lives object = same.things n ∙ ap thing_of lives ∙ ap (λ b. cond b (Some o.thing) None) object

-- and what it has the cell of is one
pub is_an_object : (p : Image) (h : Heap) (cs : List Cell) (n : ℕ) (o : Object) → SameCells p h cs → named cs n ≡ Some o → IsSome (cell_at h n) →
    is_object o.thing ≡ true
is_an_object p h cs n o same lives there = grind (arith, nat_tests)

-- a cell's number is below all messages'
pub cell_small : (p : Image) (h : Heap) (cs : List Cell) → SameCells p h cs → p.header.cells ≤ 4096 → (n : ℕ) (c : Machine_cell) → cell_at h n ≡ Some c → n < 4096
cell_small p h cs same few n c there = let low = same.below n c there in let limit = same.limit in omega (arith, low, limit, few)

-- what stands for cells stands for others with the same things and words
pub cells_as : (p : Image) (h : Heap) (cs ds : List Cell) → ((n : ℕ) → thing_of (named ds n) ≡ thing_of (named cs n)) →
    ((n w : ℕ) → n < 4096 → word_field ds n w ≡ word_field cs n w) → count_cells ds ≡ count_cells cs → SameCells p h cs → SameCells p h ds
cells_as p h cs ds things words count same = record {
  things = λ n. same.things n ∙ sym (things n);
  words = λ n w small. same.words n w small ∙ sym (words n w small);
  count = same.count ∙ sym count;
  limit = same.limit;
  wide = same.wide;
  classes = same.classes;
  null_is_none = same.null_is_none;
  below = same.below;
}

pub cells_moved : (p : Image) (h : Heap) (cs : List Cell) (from to : Place) → SameCells p h cs → SameCells p h (moved from to cs)
cells_moved p h cs from to =
    cells_as p h cs (moved from to cs) (λ n. ap thing_of (named_moved cs from to n)) (λ n w small. words_moved cs from to n w) (count_moved cs from to)

-- the place of a cell that is not owned so is another
pub unowned : (c : Cell) (cs : List Cell) (r : Place) (is : Place → Bool) → is r ≡ true → not (is c.owner) ≡ true → held cs r ≡ None → held (c ∷ cs) r ≡ None
unowned c cs r is here other none = grind (arith, nat_tests, false_from_ne_true, same_place-true c.owner r, not-true)

-- the words of another cell than the one that goes
pub words_without : (cs : List Cell) (g : Place) (o : Object) (n w : ℕ) → NoDuplicates cs → held cs g ≡ Some o → (o.name == n) ≡ false →
    word_field (without g cs) n w ≡ word_field cs n w
words_without [] g o n w t e d = refl
words_without (c ∷ cs) g o n w t e d = grind (arith, nat_tests, words_without cs g o n w t.2, without_none cs g, same_place-true c.owner g)

-- the cell that a place owned goes
pub cells_without : (p : Image) (h h' : Heap) (cs : List Cell) (g : Place) (o : Object) → SameCells p h cs →
    NoDuplicates cs → held cs g ≡ Some o → is_object o.thing ≡ true → Changes h h' o.name None → count h' + 1 ≡ count h → SameCells p h' (without g cs)
cells_without p h h' cs g o same no_duplicates is object ch less = record {
  things = grind (arith, nat_tests, eqb-true o.name, unnamed cs g o no_duplicates is, named_without cs g o);
  words = λ k w small. cases (o.name == k) (λ e. ap (λ i. word_of (cell_at h' i) w) (sym (eqb-true o.name k e))
      ∙ ap (λ c. word_of c w) ch.here ∙ sym (words_unnamed (without g cs) k w (ap (named (without g cs)) (sym (eqb-true o.name k e)) ∙ unnamed cs g o no_duplicates is)))
      (λ e. ap (λ c. word_of c w) (other k e) ∙ same.words k w small ∙ sym (words_without cs g o k w no_duplicates is e));
  count = (let a = count_without cs g no_duplicates ∙ ap (λ o. counted_in o + count_cells (without g cs)) is in let one = ap {B = ℕ} (λ b. cond b 1 0) object in
      let b = same.count in omega (arith, a, one, b));
  limit = ch.limit ∙ same.limit;
  wide = λ k c e. same.wide k c (sym (still k c e) ∙ e);
  classes = λ k c e. same.classes k c (sym (still k c e) ∙ e);
  null_is_none = grind (arith, nat_tests, eqb-true o.name);
  below = λ k c e. subst (λ l. k < l) (sym ch.limit) (same.below k c (sym (still k c e) ∙ e));
}
  where
    other : (k : ℕ) → (o.name == k) ≡ false → cell_at h' k ≡ cell_at h k
    other k e = ch.others k (λ d. false≢true (sym e ∙ eq-eqb o.name k (sym d)))

    still : (k : ℕ) (c : _) → cell_at h' k ≡ Some c → cell_at h' k ≡ cell_at h k
    still k c is' = grind (arith, nat_tests, eqb-true o.name k, other k)
