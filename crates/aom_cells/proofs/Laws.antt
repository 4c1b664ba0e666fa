-- What classes, words and fields are at each number after a change, from the change at one number alone.
use Rattle.std.proofs.Common.{◌≡◌, ◌≢◌, ◌<◌, ◌≤◌, ℕ, ℤ, pos, Bool, true, false, cond, ◌==◌, ◌&&◌, ◌↔◌, [], Option, Some}
use Rattle.std.proofs.Common.{None, IsSome, slice_index_or, replicate, refl, sym, ap, ◌∙◌, subst, inl, inr, arith}
use Rattle.std.proofs.lemmas.Bool.{cases_Bool, cases_lt, eqb-true, eq-eqb, false≢true}
use Rattle.std.proofs.lemmas.List.{get_or-set_other, get_or-replicate, get_or_past, length-replicate}
use Rattle.aom_cells.specs.declared.cell.Cell.{Cell}
use Rattle.aom_cells.specs.Heap.{Heap, null, cell_at, Lives, class_of, class_at, word_of, word_at, field_of}
use Rattle.aom_cells.specs.Heap.{field_at, blank, with_word, with_field, count, Changes, IsBounded}

-- a new cell, under a number that had none: words and fields read as before at every number
pub record Adds (old new : Heap) (id class : ℕ) : Type 0 where
  pub classes : (n : ℕ) → class_at new n ≡ cond (id == n) (Some class) (class_at old n)
  pub words : (n w : ℕ) → word_at new n w ≡ word_at old n w
  pub fields : (n f : ℕ) → field_at new n f ≡ field_at old n f

-- a cell goes
pub record Removes (old new : Heap) (id : ℕ) : Type 0 where
  pub classes : (n : ℕ) → class_at new n ≡ cond (id == n) None (class_at old n)
  pub words : (n w : ℕ) → word_at new n w ≡ cond (id == n) (pos 0) (word_at old n w)
  pub fields : (n f : ℕ) → field_at new n f ≡ cond (id == n) null (field_at old n f)

-- one word is written
pub record SetsWord (old new : Heap) (id word : ℕ) (value : ℤ) : Type 0 where
  pub classes : (n : ℕ) → class_at new n ≡ class_at old n
  pub words : (n w : ℕ) → word_at new n w ≡ cond ((id == n) && (word == w)) value (word_at old n w)
  pub fields : (n f : ℕ) → field_at new n f ≡ field_at old n f

-- one field is written
pub record SetsField (old new : Heap) (id field number : ℕ) : Type 0 where
  pub classes : (n : ℕ) → class_at new n ≡ class_at old n
  pub words : (n w : ℕ) → word_at new n w ≡ word_at old n w
  pub fields : (n f : ℕ) → field_at new n f ≡ cond ((id == n) && (field == f)) number (field_at old n f)

-- each place of a list of equal values has that value
all_same : {A : Type 0} (n : ℕ) (value : A) (i : ℕ) → slice_index_or (replicate n value) i value ≡ value
all_same n value i = elim (cases_lt i n) [
  | inl inside ↦ get_or-replicate n i value value inside
  | inr past ↦ get_or_past (replicate n value) i value (omega (arith, length-replicate n value))
]

-- what is read of a cell: at the number it is the new cell's, elsewhere as it was
pub reads_after : {A : Type 0} (read : Option Cell → A) (old new : Heap) (id : ℕ) (cell : Option Cell) →
    Changes old new id cell → (n : ℕ) → read (cell_at new n) ≡ cond (id == n) (read cell) (read (cell_at old n))
reads_after read old new id cell ch n = elim (cases_Bool (id == n)) [
  | inl e ↦ ap (λ k. read (cell_at new k)) (sym (eqb-true id n e)) ∙ ap read ch.here ∙ ap (λ b. cond b (read cell) (read (cell_at old n))) (sym e)
  | inr e ↦ ap read (ch.others n (λ same. false≢true (sym e ∙ eq-eqb id n (sym same)))) ∙ ap (λ b. cond b (read cell) (read (cell_at old n))) (sym e)
]

-- what the new cell says as the old one did is as it was everywhere
pub reads_kept : {A : Type 0} (read : Option Cell → A) (old new : Heap) (id : ℕ) (cell : Option Cell) →
    Changes old new id cell → read cell ≡ read (cell_at old id) → (n : ℕ) → read (cell_at new n) ≡ read (cell_at old n)
reads_kept read old new id cell ch same n = elim (cases_Bool (id == n)) [
  | inl e ↦ ap (λ k. read (cell_at new k)) (sym (eqb-true id n e)) ∙ ap read ch.here ∙ same ∙ ap (λ k. read (cell_at old k)) (eqb-true id n e)
  | inr e ↦ ap read (ch.others n (λ other. false≢true (sym e ∙ eq-eqb id n (sym other))))
]

-- one part of the cell at the number changes, its other parts stay
part_after : {A : Type 0} (read : Option Cell → ℕ → A) (old new : Heap) (id part : ℕ) (value : A) (cell : Option Cell) →
    Changes old new id cell → read (cell_at new id) part ≡ value → ((p : ℕ) → p ≢ part → read cell p ≡ read (cell_at old id) p) → (n p : ℕ) →
    read (cell_at new n) p ≡ cond ((id == n) && (part == p)) value (read (cell_at old n) p)
part_after read old new id part value cell ch here others n p = go (id == n) (part == p) refl refl
  where
    at_id : (id == n) ≡ true → (k : ℕ) → read (cell_at new n) k ≡ read (cell_at new id) k
    at_id e k = ap (λ m. read (cell_at new m) k) (sym (eqb-true id n e))

    go : (b c : Bool) → (id == n) ≡ b → (part == p) ≡ c → read (cell_at new n) p ≡ cond (b && c) value (read (cell_at old n) p)
    go true true e f = at_id e p ∙ ap (read (cell_at new id)) (sym (eqb-true part p f)) ∙ here
    go true false e f = at_id e p ∙ ap (λ c. read c p) ch.here ∙ others p (λ same. false≢true (sym f ∙ eq-eqb part p (sym same)))
        ∙ ap (λ m. read (cell_at old m) p) (eqb-true id n e)
    go false c e f = ap (λ c. read c p) (ch.others n (λ same. false≢true (sym e ∙ eq-eqb id n (sym same))))

-- words and fields of a new cell
pub blank_word : (class w : ℕ) → word_of (Some (blank class)) w ≡ pos 0
blank_word class w = all_same 8 (pos 0) w

pub blank_field : (class f : ℕ) → field_of (Some (blank class)) f ≡ null
blank_field class f = all_same 8 null f

-- a write of one word keeps the other words, the class and the fields
word_others : (cell : Option Cell) (word : ℕ) (value : ℤ) (w : ℕ) → w ≢ word → word_of (with_word cell word value) w ≡ word_of cell w
word_others None word value w other = refl
word_others (Some c) word value w other = get_or-set_other c.words word w value (pos 0) other

word_class : (cell : Option Cell) (word : ℕ) (value : ℤ) → class_of (with_word cell word value) ≡ class_of cell
word_class None word value = refl
word_class (Some c) word value = refl

word_fields : (cell : Option Cell) (word : ℕ) (value : ℤ) (f : ℕ) → field_of (with_word cell word value) f ≡ field_of cell f
word_fields None word value f = refl
word_fields (Some c) word value f = refl

-- and a write of one field likewise
field_others : (cell : Option Cell) (field number f : ℕ) → f ≢ field → field_of (with_field cell field number) f ≡ field_of cell f
field_others None field number f other = refl
field_others (Some c) field number f other = get_or-set_other c.fields field f number null other

field_class : (cell : Option Cell) (field number : ℕ) → class_of (with_field cell field number) ≡ class_of cell
field_class None field number = refl
field_class (Some c) field number = refl

field_words : (cell : Option Cell) (field number w : ℕ) → word_of (with_field cell field number) w ≡ word_of cell w
field_words None field number w = refl
field_words (Some c) field number w = refl

-- what `create` did, number by number
pub adds : (old new : Heap) (id class : ℕ) → cell_at old id ≡ None → Changes old new id (Some (blank class)) → Adds old new id class
adds old new id class fresh ch = record {
  classes = reads_after class_of old new id (Some (blank class)) ch;
  words = λ n w. reads_kept (λ c. word_of c w) old new id (Some (blank class)) ch (blank_word class w ∙ ap (λ c. word_of c w) (sym fresh)) n;
  fields = λ n f. reads_kept (λ c. field_of c f) old new id (Some (blank class)) ch (blank_field class f ∙ ap (λ c. field_of c f) (sym fresh)) n;
}

-- what `release` did
pub removes : (old new : Heap) (id : ℕ) → Changes old new id None → Removes old new id
removes old new id ch = record {
  classes = reads_after class_of old new id None ch;
  words = λ n w. reads_after (λ c. word_of c w) old new id None ch n;
  fields = λ n f. reads_after (λ c. field_of c f) old new id None ch n;
}

-- what `set_word` did
pub sets_word : (old new : Heap) (id word : ℕ) (value : ℤ) → Changes old new id (with_word (cell_at old id) word value) → word_at new id word ≡ value →
    SetsWord old new id word value
sets_word old new id word value ch here = record {
  classes = reads_kept class_of old new id _ ch (word_class (cell_at old id) word value);
  words = part_after word_of old new id word value _ ch here (word_others (cell_at old id) word value);
  fields = λ n f. reads_kept (λ c. field_of c f) old new id _ ch (word_fields (cell_at old id) word value f) n;
}

-- what `put_field` did, and `take_field` with null
pub sets_field : (old new : Heap) (id field number : ℕ) → Changes old new id (with_field (cell_at old id) field number) → field_at new id field ≡ number →
    SetsField old new id field number
sets_field old new id field number ch here = record {
  classes = reads_kept class_of old new id _ ch (field_class (cell_at old id) field number);
  words = λ n w. reads_kept (λ c. word_of c w) old new id _ ch (field_words (cell_at old id) field number w) n;
  fields = part_after field_of old new id field number _ ch here (field_others (cell_at old id) field number);
}

-- a cell lives where its class can be read
pub lives_by_class : (h : Heap) (n : ℕ) → IsSome (class_at h n) ↔ Lives h n
lives_by_class h n = by_cell (cell_at h n)
  where
    by_cell : (cell : Option Cell) → IsSome (class_of cell) ↔ IsSome cell
    by_cell None = (λ no. no, λ no. no)
    by_cell (Some c) = (λ yes. yes, λ yes. yes)

-- the heap without cells is bounded
pub bounded_empty : (limit : ℕ) → limit ≤ 4096 → IsBounded (record { slots = []; limit = limit })
bounded_empty limit small = record { within = omega arith; ids = λ id lives. absurd (false≢true lives); limit = small }

-- a change at a number below the limit keeps the heap bounded, if no more cells live than may
pub bounded_after : (old new : Heap) (id : ℕ) (cell : Option Cell) → IsBounded old → Changes old new id cell → id < new.limit → count new ≤ new.limit → IsBounded new
bounded_after old new id cell was ch small within = record {
  within = within;
  ids = λ n lives. elim (cases_Bool (id == n)) [
    | inl e ↦ subst (λ k. k < new.limit) (eqb-true id n e) small
    | inr e ↦ subst (λ k. n < k) (sym ch.limit) (was.ids n (subst (λ c. IsSome c) (ch.others n (λ same. false≢true (sym e ∙ eq-eqb id n (sym same)))) lives))
  ];
  limit = subst (λ k. k ≤ 4096) (sym ch.limit) was.limit;
}

-- no cell has the number null
pub null_is_none : (h : Heap) → IsBounded h → cell_at h null ≡ None
null_is_none h bounded = by_cell (cell_at h null) (λ lives. let below = bounded.ids null lives in let most = bounded.limit in omega (arith, below, most))
  where
    by_cell : (cell : Option Cell) → (IsSome cell → null < 4096) → cell ≡ None
    by_cell None small = refl
    by_cell (Some c) small = absurd (omega (arith, small refl))
