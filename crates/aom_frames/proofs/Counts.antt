-- What the counts of a list of items say of each other and of what is last, by cases of the item and by induction on the list.
use Rattle.std.proofs.Common.{◌≡◌, ℕ, suc, ◌+◌, ◌<◌, ◌≤◌, ◌⊎◌, inl, inr, length, List, [], ◌∷◌, refl, sym, ap, ◌∙◌, subst, arith}
use Rattle.std.specs.Prelude.{reverse}
use Rattle.std.proofs.lemmas.List.{length-reverse}
use Rattle.arrayvec.specs.ArrayVec.{ArrayVec}
use Rattle.aom_frames.specs.Items.{Stack, IsWithin, IsEntry, IsAboveMark, IsNotAboveMark, IsMarked, entries_in, marks_in}
use Rattle.aom_frames.specs.declared.item.Item.{Item}
use Rattle.aom_frames.specs.declared.item.Item.TheVariants.{Object, Operation, Mark}

-- each item is an entry or a mark
pub length_of_items : (is : List Item) → length is ≡ entries_in is + marks_in is
length_of_items [] = refl
length_of_items (Object n ∷ is) = let below = length_of_items is in omega (arith, below)
length_of_items (Operation m w ∷ is) = let below = length_of_items is in omega (arith, below)
length_of_items (Mark ∷ is) = let below = length_of_items is in omega (arith, below)

-- an entry counts as one, and as no mark
pub entries_with : (i : Item) (is : List Item) → IsEntry i → entries_in (i ∷ is) ≡ suc (entries_in is)
entries_with i is entry = grind arith

pub marks_with : (i : Item) (is : List Item) → IsEntry i → marks_in (i ∷ is) ≡ marks_in is
marks_with i is entry = grind arith

-- what is last is counted
pub some_entry : (is : List Item) → IsAboveMark is → 0 < entries_in is
some_entry (i ∷ is) above = omega (arith, entries_with i is above)
some_entry [] above = absurd above

pub some_mark : (is : List Item) → IsMarked is → 0 < marks_in is
some_mark (Mark ∷ is) marked = omega arith
some_mark _ marked = absurd marked

-- an entry is last, or not, and never both
pub not_above : (is : List Item) → (IsAboveMark is → ⊥) → IsNotAboveMark is
not_above [] none = tt
not_above (Object n ∷ is) none = none tt
not_above (Operation m w ∷ is) none = none tt
not_above (Mark ∷ is) none = tt

pub not_both : (is : List Item) → IsAboveMark is → IsNotAboveMark is → ⊥
not_both [] above bare = above
not_both (Object n ∷ is) above bare = bare
not_both (Operation m w ∷ is) above bare = bare
not_both (Mark ∷ is) above bare = above

-- where no entry is last and there is a mark, a mark is last
pub mark_is_last : (is : List Item) → IsNotAboveMark is → 0 < marks_in is → IsMarked is
mark_is_last [] bare some = absurd (omega (arith, some))
mark_is_last (i ∷ is) bare some = bare

-- entries and marks are bounded, and so are items
pub length_within : (s : Stack) → IsWithin s → length s.items ≤ 1280
length_within s within = omega (arith, length_of_items s.items, within.entries, within.depth, within.marks)

-- a stack's list in its box is as long as its counts say
boxed_length : (xs zs : ArrayVec Item) (depth : ℕ) (now : Stack) → zs ≡ xs → record { items = reverse xs.items; depth = depth } ≡ now →
    length zs.items ≡ entries_in now.items + marks_in now.items
boxed_length xs zs depth now same view =
    ap (λ v. length v.items) same ∙ sym (length-reverse xs.items) ∙ ap (λ s. length s.items) view ∙ length_of_items now.items

-- so it has room for one more item where there may be one more entry, or one more mark
pub has_room : (xs zs : ArrayVec Item) (depth : ℕ) (now : Stack) → zs ≡ xs → record { items = reverse xs.items; depth = depth } ≡ now →
    IsWithin (record { items = reverse xs.items; depth = depth }) → (entries_in now.items < now.depth) ⊎ (marks_in now.items < 256) → length zs.items < 1280
has_room xs zs depth now same view within more =
    let now_within : IsWithin now = subst IsWithin view within in
    elim more [
      | inl entry ↦ omega (arith, boxed_length xs zs depth now same view, now_within.depth, now_within.marks, entry)
      | inr mark ↦ omega (arith, boxed_length xs zs depth now same view, now_within.entries, now_within.depth, mark)
    ]
