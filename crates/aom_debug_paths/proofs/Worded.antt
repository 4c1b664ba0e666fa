-- The words that are told of an object are those of what is owned at the path.
use Rattle.std.proofs.Common.{◌≡◌, ◌∙◌, ◌<◌, ℕ, List, Option, Some, None, ap, arith, refl, sym}
use Rattle.std.specs.Prelude.{IsSome}
use Rattle.aom_cells.specs.Heap.{Lives, cell_at, word_at}
use Rattle.aom_cells.specs.declared.cell.Cell.{Cell as Machine_cell}
use Rattle.aom_image.specs.Image.{Image}
use Rattle.aom_image.specs.declared.method.Thing.{Thing}
use Rattle.aom_image.specs.declared.method.Thing.TheVariants.{Object as An_object_of, Message as A_message}
use Rattle.std.proofs.lemmas.Option.{none-some}
use Rattle.aom_roles.specs.Things.{words_of}
use Rattle.aom_machine_state.specs.Stands.{Refines}
use Rattle.aom_machine_state.specs.declared.parts.Parts.{Parts}
use Rattle.aom_semantics.specs.Places.{Cell, Object, word_field}
use Rattle.aom_semantics.specs.State.{State}
use Rattle.aom_debug_views.specs.CellViews.{class_in}
use Rattle.aom_debug_paths.specs.declared.following.Found.{Found}
use Rattle.aom_debug_paths.specs.Paths.{IsFound, object_words, word_lines, words_in}

pub words_found : (p : Image) (cs : List Cell) (x : Option Object) (f : Found) → IsFound x (Some f) →
    words_in p cs x ≡ Some (word_lines cs f.cell (words_of p f.class))
words_found p cs x f is =
    ap (λ y. words_in p cs y) is.1 ∙ ap (λ t. object_words p cs is.0.name t) is.2 ∙ ap (λ n. Some (word_lines cs n (words_of p f.class))) is.3

-- and there are none where there is no object
pub words_none : (p : Image) (cs : List Cell) (x : Option Object) → IsFound x None → words_in p cs x ≡ None
words_none p cs None none = refl
words_none p cs (Some o) none = go o.thing none
  where
    go : (t : Thing) → class_in t ≡ None → object_words p cs o.name t ≡ None
    go (An_object_of class) is = absurd (none-some class (sym is))
    go A_message is = refl

-- a word of what lives in a cell
pub word_reported : (p : Image) (m : Parts) (s : State) → Refines (record { image = p; parts = m }) s → (n : ℕ) → Lives m.cells n → (w : ℕ) →
    word_at m.cells n w ≡ word_field s.cells n w
word_reported p m s st n lives w = st.agrees.cells.words n w (below (cell_at m.cells n) refl lives)
  where
    below : (o : Option Machine_cell) → cell_at m.cells n ≡ o → IsSome o → n < 4096
    below None is some = cc
    below (Some c) is some =
        let less = st.agrees.cells.below n c is in
        let limit = st.agrees.cells.limit in
        let few = st.sound.formed.header.cells in
        omega (arith, less, limit, few)
