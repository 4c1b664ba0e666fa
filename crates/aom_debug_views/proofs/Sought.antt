-- The way to an object among what is owned: it hangs from one part, or from a later one.
use Rattle.std.proofs.lemmas.Bool.Decides.{nat_tests}
use Rattle.std.proofs.Common.{◌≡◌, ◌≢◌, ◌∙◌, ◌<◌, ◌+◌, ℕ, zero, suc, Bool, true, false, cond, ◌==◌, List, [], ◌∷◌, ◌++◌, Option, Some, None}
use Rattle.std.proofs.Common.{add-one, ap, arith, refl, sym}
use Rattle.std.specs.Prelude.{IsSome, is_some, option_map}
use Rattle.std.specs.List.{flat_map}
use Rattle.std.proofs.lemmas.Bool.{eq-eqb}
use Rattle.std.proofs.lemmas.Option.{none-some}
use Rattle.aom_image.specs.Image.{Image}
use Rattle.aom_image.specs.declared.method.Thing.{Thing}
use Rattle.aom_image.specs.declared.method.Thing.TheVariants.{Object as An_object_of, Message}
use Rattle.aom_link_conditions.specs.Roles.{or_else}
use Rattle.aom_cells.specs.Heap.{class_at}
use Rattle.aom_cells.specs.Heap.{class_of as class_of_cell}
use Rattle.aom_cells.specs.declared.cell.Cell.{Cell as Machine_cell}
use Rattle.aom_semantics.specs.Places.{Cell, Object, Place, held}
use Rattle.aom_semantics.specs.State.{State}
use Rattle.aom_machine_state.specs.declared.parts.Parts.{Parts}
use Rattle.aom_machine_state.specs.Agrees.{number}
use Rattle.aom_machine_state.specs.Stands.{MachineModel, Refines}
use Rattle.aom_debug_views.specs.CellViews.{class_in, class_of}
use Rattle.aom_debug_views.specs.Owners.{Outer, Owned, Shows, Way, generations, grown, tree, way_text}
use Rattle.aom_debug_views.specs.Reporting.{gathered}
use Rattle.aom_debug_views.specs.Seeking.{way_among}
use Rattle.aom_debug_views.proofs.Reporting.{gathered_here}
use Rattle.aom_debug_views.proofs.Showing.{class_held}
use Rattle.aom_debug_views.proofs.Trees.{below, beyond, found, owned_objects_of}

-- ---- lists one after the other

module _ (n : ℕ) where
  abbrev pub text_among : List Owned → Option (List ℕ)
  text_among xs = option_map way_text (way_among n xs)

  pub among_both : (xs ys : List Owned) → way_among n (xs ++ ys) ≡ or_else (way_among n xs) (way_among n ys)
  among_both [] ys = refl
  among_both (x ∷ xs) ys = go (x.object.name == n) (among_both xs ys)
    where
      go : (b : Bool) → way_among n (xs ++ ys) ≡ or_else (way_among n xs) (way_among n ys) →
          cond b (Some x.way) (way_among n (xs ++ ys)) ≡ or_else (cond b (Some x.way) (way_among n xs)) (way_among n ys)
      go true rest = refl
      go false rest = rest

  -- what is told is there, and what is not told is not
  some_way : (t : List ℕ) (w other : Option Way) → Some t ≡ option_map way_text w → Some t ≡ option_map way_text (or_else w other)
  some_way t None other is = absurd (none-some t (sym is))
  some_way t (Some w) other is = is

  no_way : (w : Option Way) → None ≡ option_map way_text w → w ≡ None
  no_way None is = refl
  no_way (Some w) is = absurd (none-some (way_text w) is)

  no_text : (o : Option (List ℕ)) → is_some o ≡ false → o ≡ None
  no_text None is = refl
  no_text (Some t) is = cc

  some_text : (o : Option (List ℕ)) → is_some o ≡ true → (t : List ℕ) × (o ≡ Some t)
  some_text None is = cc
  some_text (Some t) is = (t, refl)

  pub not_there : (o : Option (List ℕ)) (xs : List Owned) → o ≡ text_among xs → is_some o ≡ false → way_among n xs ≡ None
  not_there o xs is none = no_way (way_among n xs) (sym (no_text o none) ∙ is)

  -- in the first of two, or in the second
  pub in_first : (o : Option (List ℕ)) (xs ys : List Owned) → o ≡ text_among xs → is_some o ≡ true → o ≡ text_among (xs ++ ys)
  in_first o xs ys is some =
      let t = some_text o some in
      t.1 ∙ some_way t.0 (way_among n xs) (way_among n ys) (sym t.1 ∙ is) ∙ ap (option_map way_text) (sym (among_both xs ys))

  pub in_second : (o : Option (List ℕ)) (xs ys : List Owned) → way_among n xs ≡ None → o ≡ text_among ys → o ≡ text_among (xs ++ ys)
  in_second o xs ys none is = is ∙ ap (option_map way_text) (sym (among_both xs ys ∙ ap (λ w. or_else w (way_among n ys)) none))

  -- ---- one part after another

  module _ (f : ℕ → List Owned) where
    pub among_next : (i : ℕ) → way_among n (gathered f i) ≡ None → way_among n (f i) ≡ None → way_among n (gathered f (i + 1)) ≡ None
    among_next i none here = rw add-one (among_both (gathered f i) (f i) ∙ ap (λ w. or_else w (way_among n (f i))) none ∙ here)

    pub among_part : (i count : ℕ) (o : Option (List ℕ)) → i < count → way_among n (gathered f i) ≡ None → o ≡ text_among (f i) → is_some o ≡ true →
        o ≡ text_among (gathered f count)
    among_part i count o less none is some =
        let here = gathered_here f i count less in
        in_second o (gathered f i) (f i ++ here.0) none (in_first o (f i) here.0 is some) ∙ ap text_among (sym here.1)

    pub among_none : (count : ℕ) → ((i : ℕ) → way_among n (f i) ≡ None) → way_among n (gathered f count) ≡ None
    among_none zero none = refl
    among_none (suc i) none = among_both (gathered f i) (f i) ∙ ap (λ w. or_else w (way_among n (f i))) (among_none i none) ∙ none i

-- ---- what hangs from a place

-- all generations of it
pub grown_among : (n : ℕ) (cs : List Cell) (outer : Outer) (r : Place) (o : Option (List ℕ)) →
    o ≡ text_among n (tree cs 257 (record { outer = outer; branches = [] }) (held cs r)) → o ≡ text_among n (grown cs outer r)
unfolding generations
grown_among n cs outer r o is = is

-- what lives has a class
pub has_class : (o : Option Machine_cell) → IsSome o → (class : ℕ) × (class_of_cell o ≡ Some class)
has_class None some = cc
has_class (Some c) some = (c.class, refl)

pub no_class : (o : Option Machine_cell) → (IsSome o → ⊥) → class_of_cell o ≡ None
no_class None none = refl
no_class (Some c) none = absurd (none refl)

module _ (p : Image) (m : Parts) where
  abbrev M : MachineModel
  M = record { image = p; parts = m }

  -- it is what is held there
  pub is_held : (n sought class d : ℕ) (w : Way) (r : Place) (s : State) → Refines M s → Shows M n r → n ≡ sought → class_at m.cells n ≡ Some class →
      way_among sought (tree s.cells (suc d) w (held s.cells r)) ≡ Some w
  is_held n sought class d w r s st shows same lives =
      let o = found p m n class r s st shows lives in
      grind (arith, nat_tests, eq-eqb o.0.name sought (o.3 ∙ same), o.1)

  other : (n k : ℕ) → n ≢ k → (n == k) ≡ false
  other n k apart = grind (arith, nat_tests)

  message : (th : Thing) → class_in th ≡ None → th ≡ Message
  message (An_object_of class) is = absurd (none-some class (sym is))
  message Message is = refl

  -- a message that is held there is another, and owns nothing
  pub is_no_cell : (n sought d : ℕ) (w : Way) (r : Place) (s : State) → Refines M s → Shows M n r → n ≢ sought → class_at m.cells n ≡ None →
      way_among sought (tree s.cells (suc d) w (held s.cells r)) ≡ None
  is_no_cell n sought d w r s st shows apart none = go (held s.cells r) (shows.each s st) (sym (class_held p m s st r n (shows.each s st)) ∙ none)
    where
      go : (o : Option Object) → n ≡ number o → class_of o ≡ None → way_among sought (tree s.cells (suc d) w o) ≡ None
      go None is class = refl
      go (Some o) is class = grind (arith, nat_tests, other o.name sought (λ same. apart (is ∙ same)), message o.thing class)

  -- or it hangs from what is held there
  pub hangs_beneath : (n class sought d : ℕ) (w : Way) (r : Place) (s : State) → Refines M s → Shows M n r → n ≢ sought → class_at m.cells n ≡ Some class →
      way_among sought (tree s.cells (suc d) w (held s.cells r))
      ≡ way_among sought (gathered (below p m n d w s) 8 ++ flat_map (beyond p m n d w s) (owned_objects_of p m n s))
  hangs_beneath n class sought d w r s st shows apart lives =
      let o = found p m n class r s st shows lives in
      grind (arith, nat_tests, other o.0.name sought, o.1, o.2, o.3)
