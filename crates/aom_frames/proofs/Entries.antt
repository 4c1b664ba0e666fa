-- What stands where, counted from the bottom: a push changes one place, and nothing stands past the end.
use Rattle.std.proofs.Common.{◌≡◌, ◌≢◌, ℕ, zero, suc, cond, ◌==◌, ◌+◌, ◌≤◌, length, List, [], ◌∷◌, Some, inl, inr, refl, sym, ap, ◌∙◌, arith}
use Rattle.std.proofs.lemmas.Bool.{cases_Bool, eqb-true, eq-eqb, ne_eqb}
use Rattle.aom_cells.specs.Heap.{null}
use Rattle.aom_frames.specs.Items.{item_at, owned_by, entry_in}
use Rattle.aom_frames.specs.declared.item.Item.{Item}

-- the last item stands over all others
pub entry_on_top : (i : Item) (is : List Item) → entry_in (i ∷ is) (length is) ≡ owned_by i
entry_on_top i is = ap (λ b. cond b (owned_by i) (entry_in is (length is))) (eq-eqb (length is) (length is) refl)

-- at each other place it changes nothing
pub entry_elsewhere : (i : Item) (is : List Item) (k : ℕ) → k ≢ length is → entry_in (i ∷ is) k ≡ entry_in is k
entry_elsewhere i is k other = ap (λ b. cond b (owned_by i) (entry_in is k)) (ne_eqb (length is) k (λ same. other (sym same)))

-- past the end nothing is owned
pub entry_past : (is : List Item) (k : ℕ) → length is ≤ k → entry_in is k ≡ null
entry_past [] k past = refl
entry_past (i ∷ is) k past = entry_elsewhere i is k (λ same. absurd (omega (arith, past, same))) ∙ entry_past is k (omega (arith, past))

-- an item that owns nothing changes nothing at all
pub entry_of_nothing : (i : Item) (is : List Item) (k : ℕ) → owned_by i ≡ null → entry_in (i ∷ is) k ≡ entry_in is k
entry_of_nothing i is k none = elim (cases_Bool (length is == k)) [
  | inl last ↦ ap (λ b. cond b (owned_by i) (entry_in is k)) last ∙ none ∙ sym (entry_past is k (omega (arith, eqb-true (length is) k last)))
  | inr other ↦ ap (λ b. cond b (owned_by i) (entry_in is k)) other
]

-- once the last item is gone its place owns nothing, and each other place is as it was
pub entry_popped : (i : Item) (is : List Item) (k : ℕ) → entry_in is k ≡ cond (length is == k) null (entry_in (i ∷ is) k)
entry_popped i is k = elim (cases_Bool (length is == k)) [
  | inl last ↦ entry_past is k (omega (arith, eqb-true (length is) k last)) ∙ sym (ap (λ b. cond b null (entry_in (i ∷ is) k)) last)
  | inr other ↦ sym (ap (λ b. cond b null (cond b (owned_by i) (entry_in is k))) other)
]

-- the item that lies so many below the last stands over those that are left
pub entry_from_top : (is : List Item) (k n : ℕ) (i : Item) → item_at is k ≡ Some i → n + suc k ≡ length is → entry_in is n ≡ owned_by i
entry_from_top [] k n i found left = absurd (omega (arith, left))
entry_from_top (j ∷ is) zero n i found left =
    let same : j ≡ i = cc in
    let last : n ≡ length is = omega (arith, left) in
    ap (entry_in (j ∷ is)) last ∙ entry_on_top j is ∙ ap owned_by same
entry_from_top (j ∷ is) (suc k) n i found left =
    entry_elsewhere j is n (λ last. absurd (omega (arith, left, last))) ∙ entry_from_top is k n i found (omega (arith, left))
