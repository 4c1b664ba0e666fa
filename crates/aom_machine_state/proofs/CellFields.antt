-- What a write of one field or of one word of a cell does to the places and to the cells.
use Rattle.std.proofs.lemmas.Bool.Decides.{nat_tests}
use Rattle.std.proofs.lemmas.Option.{none-some}
use Rattle.std.proofs.Common.{◌≡◌, ℕ, ℤ, ◌<◌, true, false, cond, ◌==◌, ◌&&◌, length, List, Option, Some, sym, ap, ◌∙◌, subst, arith}
use Rattle.aom_machine_state.proofs.ImageLemmas.{some_given}
use Rattle.std.proofs.lemmas.Bool.{eq-eqb, eqb-true, false≢true}
use Rattle.std.proofs.lemmas.List.{get_or-set_other, length-set}
use Rattle.aom_image.specs.Image.{Image}
use Rattle.aom_roles.specs.Things.{is_object}
use Rattle.aom_cells.specs.Heap.{Heap, null, cell_at, field_of, field_at, with_word, with_field, count, Changes}
use Rattle.aom_cells.specs.Heap.{word_at as cell_word}
use Rattle.aom_cells.specs.declared.cell.Cell.{Cell as Machine_cell}
use Rattle.aom_machine_state.proofs.SafetyLemmas.{count_stored, named_set_word}
use Rattle.aom_semantics.specs.Places.{Place, Field, Elsewhere, Other, Root, Object, Cell, named, changed, word_field, set_word_field, count_cells, In_service}
use Rattle.aom_frames.specs.declared.task.Task.{Task as Machine_task}
use Rattle.aom_machine_state.specs.Places.{Others, other_in, value_in}
use Rattle.aom_machine_state.specs.Agrees.{SameCells, thing_in, thing_of}
use Rattle.aom_machine_state.specs.Fields.{PutsWord, PutsField}
use Rattle.aom_machine_state.proofs.Values.{cases}
use Rattle.aom_machine_state.proofs.CellWords.{words_stored}
use Rattle.aom_machine_state.proofs.Cells.{class_reported}
use Rattle.aom_frames.specs.declared.item.Item.{Item}

-- a field of a cell is read as it was written, and the others as before
field_left : (c : Option Machine_cell) (f g x : ℕ) → (f == g) ≡ false → field_of (with_field c f x) g ≡ field_of c g
field_left x f g y d = grind (arith, nat_tests, get_or-set_other, eq-eqb f g)

field_read : (h h' : Heap) (n f x : ℕ) → PutsField n f x h h' → (k g : ℕ) → field_at h' k g ≡ cond ((n == k) && (f == g)) x (field_at h k g)
field_read h h' n f x puts k g = grind (arith, nat_tests, eqb-true n k, eq-eqb n k, eqb-true f g, field_left)

-- all other places stay as they are
pub field_written : (us : List Machine_task) (h h' : Heap) (es : List Item) (others : Others) (n f x : ℕ) →
    PutsField n f x h h' → (r : Place) → value_in us h' es others r ≡ changed (value_in us h es others) (Field n f) x r
field_written us h h' es others n f x puts y = grind (arith, nat_tests, field_read h h' n f x puts)

-- so is it of any place that no task, no entry and no cell has
pub elsewhere_written : (us : List Machine_task) (h : Heap) (es : List Item) (others then : Others) (q : Other) (x : ℕ) →
    ((o : Other) → other_in then o ≡ changed (value_in us h es others) (Elsewhere q) x (Elsewhere o))
    → (r : Place) → value_in us h es then r ≡ changed (value_in us h es others) (Elsewhere q) x r
elsewhere_written us h es others then q x same y = grind arith

pub root_written : (us : List Machine_task) (h : Heap) (es : List Item) (others : Others) (x : ℕ) (r : Place) →
    value_in us h es (record others { root = x }) r ≡ changed (value_in us h es others) (Elsewhere Root) x r
root_written us h es others x r = grind (arith, nat_tests, elsewhere_written us h es others)

pub served_written : (us : List Machine_task) (h : Heap) (es : List Item) (others : Others) (x : ℕ) (r : Place) →
    value_in us h es (record others { served = x }) r ≡ changed (value_in us h es others) (Elsewhere In_service) x r
served_written us h es others x r = grind (arith, nat_tests, elsewhere_written us h es others)

-- a word of a cell is no place
fields_left : (c : Option Machine_cell) (w g : ℕ) (v : ℤ) → field_of (with_word c w v) g ≡ field_of c g
fields_left x w g v = grind arith

pub word_put_elsewhere : (us : List Machine_task) (h h' : Heap) (es : List Item) (others : Others) (n w : ℕ) (v : ℤ) →
    PutsWord n w v h h' → (r : Place) → value_in us h' es others r ≡ value_in us h es others r
word_put_elsewhere us h h' es others n w v puts x = grind (arith, nat_tests, eqb-true n, fields_left, eq-eqb n)

-- the machine has a cell of that name
pub cell_of : (p : Image) (h : Heap) (cs : List Cell) (n : ℕ) (o : Object) → SameCells p h cs → named cs n ≡ Some o → is_object o.thing ≡ true →
    (c : Machine_cell) × (cell_at h n ≡ Some c)
cell_of p h cs n o same lives object =
    some_given (λ c. thing_in c ≡ Some o.thing) (cell_at h n) (class_reported p h cs n o same lives object) (λ f. cc) (λ c e f. (c, e))

-- a cell has other words and fields, of the same class and as many
cells_rewritten : (p : Image) (h h' : Heap) (cs cs' : List Cell) (n : ℕ) (c c' : Machine_cell) → SameCells p h cs → cell_at h n ≡ Some c →
    Changes h h' n (Some c') → c'.class ≡ c.class → length c'.fields ≡ length c.fields → count h' ≡ count h → ((k : ℕ) → named cs' k ≡ named cs k) →
    count_cells cs' ≡ count_cells cs → ((k w : ℕ) → k < 4096 → cell_word h' k w ≡ word_field cs' k w) → SameCells p h' cs'
cells_rewritten p h h' cs cs' n c c' same at ch class as_wide as_many names as_long words = record {
  things = λ k. things k ∙ same.things k ∙ ap thing_of (sym (names k));
  words = words;
  count = as_many ∙ same.count ∙ sym as_long;
  limit = ch.limit ∙ same.limit;
  wide = grind (arith, nat_tests);
  classes = grind (arith, nat_tests);
  null_is_none = ch.others null (λ d. none-some _ (sym (sym at ∙ ap (λ i. cell_at h i) (sym d) ∙ same.null_is_none))) ∙ same.null_is_none;
  below = λ k z is. subst (λ l. k < l) (sym ch.limit) (cases (n == k) (λ e. subst (λ i. i < h.limit) (eqb-true n k e) (same.below n c at))
      (λ e. same.below k z (sym (other k e) ∙ is)));
}
  where
    other : (k : ℕ) → (n == k) ≡ false → cell_at h' k ≡ cell_at h k
    other k e = ch.others k (λ d. false≢true (sym e ∙ eq-eqb n k (sym d)))

    new : (k : ℕ) (z : Machine_cell) → (n == k) ≡ true → cell_at h' k ≡ Some z → c' ≡ z
    new k z e is = let both : Some c' ≡ Some z = sym ch.here ∙ ap (λ i. cell_at h' i) (eqb-true n k e) ∙ is in cc

    things : (k : ℕ) → thing_in (cell_at h' k) ≡ thing_in (cell_at h k)
    things k = grind (arith, nat_tests, eqb-true n k, other k)

-- a field is written
pub cells_put : (p : Image) (h h' : Heap) (cs : List Cell) (n f x : ℕ) (o : Object) → SameCells p h cs → named cs n ≡ Some o → is_object o.thing ≡ true →
    PutsField n f x h h' → SameCells p h' cs
cells_put p h h' cs n f x o same lives object puts =
    grind (arith, nat_tests, cell_of p h cs n o same lives object, cells_rewritten p h h' cs cs n, length-set, eqb-true n, eq-eqb n)

-- a word is written
pub cells_stored : (p : Image) (h h' : Heap) (cs : List Cell) (n w : ℕ) (v : ℤ) (o : Object) →
    SameCells p h cs → named cs n ≡ Some o → is_object o.thing ≡ true → PutsWord n w v h h' → SameCells p h' (set_word_field n w v cs)
cells_stored p h h' cs n w v o same lives object puts = grind (
  arith,
  nat_tests,
  cell_of p h cs n o same lives object,
  cells_rewritten p h h' cs,
  named_set_word cs n w v,
  count_stored cs n w v,
  words_stored h h' cs n w v o same.words lives puts.changed puts.here,
)
