-- What a machine's numbers show of each state that it stands for: the classes of cells, and the items of the cleanup stack.
use Rattle.std.proofs.lemmas.Bool.Decides.{nat_tests}
use Rattle.std.proofs.Common.{◌≡◌, ◌∙◌, ◌<◌, ℕ, ◌-◌, Bool, cond, ◌==◌, List, [], ◌∷◌, length, Option, Some, None, slice_get, refl, sym, ap}
use Rattle.std.proofs.Common.{arith}
use Rattle.std.proofs.lemmas.Bool.{eqb-false, eqb-true}
use Rattle.std.proofs.lemmas.Option.{none-some, same_Some}
use Rattle.aom_image.specs.Image.{Image}
use Rattle.aom_cells.specs.Heap.{Heap, cell_at, class_at, null}
use Rattle.aom_cells.specs.Heap.{class_of as class_of_cell}
use Rattle.aom_cells.specs.declared.cell.Cell.{Cell as Machine_cell}
use Rattle.aom_frames.specs.Items.{entry_in, owned_by}
use Rattle.aom_frames.specs.declared.item.Item.{Item as Machine_item}
use Rattle.aom_frames.specs.declared.item.Item.TheVariants.{Object as Holds_object}
use Rattle.aom_semantics.specs.Owned.{over}
use Rattle.aom_semantics.specs.Places.{Cell, Entry, Object, Place, held, named}
use Rattle.aom_semantics.specs.State.{Item, State}
use Rattle.aom_debug_views.proofs.SemanticsLemmas.{held_lives}
use Rattle.aom_machine_state.specs.declared.parts.Parts.{Parts}
use Rattle.aom_machine_state.specs.Agrees.{SameItem, SameItems, number, thing_in, thing_of}
use Rattle.aom_machine_state.specs.Stands.{Refines}
use Rattle.aom_debug_views.proofs.MachineStateLemmas.{by_items, same_items_length}
use Rattle.aom_debug_protocol.specs.declared.answer.Answer.{Answer}
use Rattle.aom_debug_views.proofs.Over.{BothOver, one_over}
use Rattle.aom_debug_views.specs.Owners.{entries_of, is_entry}
use Rattle.aom_debug_views.specs.CellViews.{class_of, held_answer, item_answer}

-- ---- what stands over so many others

module _ {A : Type 0} where
  -- by how many lie above it
  pub over_from_top : (xs : List A) (k : ℕ) → k < length xs → slice_get xs ((length xs - k) - 1) ≡ over xs k
  over_from_top [] k less = absurd (omega arith)
  over_from_top (x ∷ xs) k less = grind (arith, nat_tests, over_from_top xs k, eqb-true, eqb-false)

-- ---- classes

-- what the machine has under a number is of the class of what has that name
class_shown : (c : Option Machine_cell) (o : Option Object) → thing_in c ≡ thing_of o → class_of_cell c ≡ class_of o
class_shown c x is = grind (arith, nat_tests, same_Some)

module _ (p : Image) (m : Parts) (s : State) (st : Refines (record { image = p; parts = m }) s) where
  -- the class of the cell of a name
  pub class_named : (n : ℕ) → class_at m.cells n ≡ class_of (named s.cells n)
  class_named n = class_shown (cell_at m.cells n) (named s.cells n) (st.agrees.cells.things n)

  -- the class of what a place holds
  pub class_held : (r : Place) (n : ℕ) → n ≡ number (held s.cells r) → class_at m.cells n ≡ class_of (held s.cells r)
  class_held r n is = grind (arith, nat_tests, class_named, held_lives s.cells r)

-- ---- the cleanup stack

abbrev SameOver : Option Machine_item → Option Item → Type 0
SameOver i j = BothOver SameItem i j

both_over : (k : ℕ) (is : List Machine_item) (js : List Item) → SameItems is js → SameOver (over is k) (over js k)
both_over k = by_items (λ is js. SameOver (over is k) (over js k)) tt
    (λ i j is js same rest below. one_over SameItem i j k is js same (same_items_length is js rest) below)

abbrev pub answer_at : Heap → Option Machine_item → Option Answer
answer_at h None = None
answer_at h (Some i) = held_answer h i

same_answer : (h : Heap) (cs : List Cell) (k : ℕ) (o : Option Machine_item) (u : Option Item) →
    SameOver o u → ((n : ℕ) → o ≡ Some (Holds_object n) → class_at h n ≡ class_of (held cs (Entry k))) → answer_at h o ≡ item_answer cs k u
same_answer h cs k o u same object = grind arith

-- how many entries that is
abbrev pub entries_over : Option Machine_item → ℕ
entries_over None = 0
entries_over (Some i) = entries_of i

entry_counted : (o : Option Machine_item) (u : Option Item) → SameOver o u → entries_over o ≡ cond (is_entry u) 1 0
entry_counted o u same = grind arith

-- what an item owns is the number in its place
abbrev pub owned_over : Option Machine_item → ℕ
owned_over None = null
owned_over (Some i) = owned_by i

pub entry_there : (is : List Machine_item) (k : ℕ) → owned_over (over is k) ≡ entry_in is k
entry_there [] k = refl
entry_there (i ∷ is) k = grind (arith, nat_tests, entry_there is k)

-- the number in the place of an entry is that of the item there
entry_number : (is : List Machine_item) (k n : ℕ) → over is k ≡ Some (Holds_object n) → entry_in is k ≡ n
entry_number [] k n is_there = absurd (none-some (Holds_object n) is_there)
entry_number (i ∷ is) k n there = go (entry_number is k n) (length is == k) there
  where
    go : (over is k ≡ Some (Holds_object n) → entry_in is k ≡ n) → (b : Bool) → cond b (Some i) (over is k) ≡ Some (Holds_object n) →
        cond b (owned_by i) (entry_in is k) ≡ n
    go below x y = grind (arith, nat_tests, same_Some)

module _ (p : Image) (m : Parts) (s : State) (st : Refines (record { image = p; parts = m }) s) where
  -- so is an item told as that of the state
  pub item_reported : (k : ℕ) (o : Option Machine_item) → o ≡ over m.entries.items k → answer_at m.cells o ≡ item_answer s.cells k (over s.items k)
  item_reported k o there = ap (answer_at m.cells) there ∙ same_answer m.cells s.cells k (over m.entries.items k) (over s.items k) (both_over k m.entries.items
      s.items st.agrees.entries) (λ n object. class_held p m s st (Entry k) n (sym (entry_number m.entries.items k n object) ∙ st.agrees.values (Entry k)))

  pub as_many_items : length m.entries.items ≡ length s.items
  as_many_items = same_items_length m.entries.items s.items st.agrees.entries

  pub entries_reported : (k : ℕ) (o : Option Machine_item) → o ≡ over m.entries.items k → entries_over o ≡ cond (is_entry (over s.items k)) 1 0
  entries_reported k o is = ap entries_over is ∙ entry_counted (over m.entries.items k) (over s.items k) (both_over k m.entries.items s.items st.agrees.entries)
