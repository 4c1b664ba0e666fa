-- The items of the cleanup stack, on the machine's side and on the checked machine's.
use Rattle.std.proofs.lemmas.Bool.Decides.{nat_tests}
use Rattle.std.proofs.Common.{zero, suc, ◌≡◌, ℕ, ◌<◌, ◌≤◌, ◌-◌, Bool, true, cond, ◌&&◌, length, List, [], ◌∷◌, refl, sym, ap, ◌∙◌, subst, arith}
use Rattle.std.specs.Prelude.{is_some}
use Rattle.std.proofs.lemmas.Bool.{eq-eqb, eqb-true, false≢true, ne_eqb}
use Rattle.aom_cells.specs.Heap.{Heap, null}
use Rattle.aom_frames.specs.Items.{entry_in, item_at, owned_by}
use Rattle.aom_frames.specs.declared.item.Item.{Item as Machine_item}
use Rattle.aom_frames.specs.declared.item.Item.TheVariants.{Object as Holds_object, Mark as Is_mark}
use Rattle.aom_semantics.specs.Calls.{below_top, entry_at}
use Rattle.aom_semantics.specs.Places.{Place, Entry, changed}
use Rattle.aom_semantics.specs.State.{Item, An_object, An_operation}
use Rattle.aom_frames.specs.declared.task.Task.{Task as Machine_task}
use Rattle.aom_machine_state.specs.Places.{Others, number_in, value_in}
use Rattle.aom_machine_state.specs.Agrees.{SameItems}
use Rattle.aom_machine_state.proofs.Values.{at_depth}
use Rattle.aom_machine_state.proofs.ImageLemmas.{cons_given}
use Rattle.aom_machine_state.proofs.Alike.{by_items, some_members}

pub same_items_length : (is : List Machine_item) (js : List Item) → SameItems is js → length is ≡ length js
same_items_length = by_items (λ is js. length is ≡ length js) refl (λ i j is js _ _ e. ap suc e)

-- past the items there is nothing
pub entry_past : (is : List Machine_item) (k : ℕ) → length is ≤ k → entry_in is k ≡ null
entry_past [] k e = refl
entry_past (i ∷ is) k e = grind (arith, nat_tests, ne_eqb, entry_past is k)

-- an item that owns nothing comes and goes
pub owns_none : (i : Machine_item) (is : List Machine_item) (k : ℕ) → owned_by i ≡ null → entry_in (i ∷ is) k ≡ entry_in is k
owns_none i is k none = at_depth (length is) k (owned_by i) (entry_in is k) (λ e. entry_past is k (omega arith) ∙ sym none)

pub mark_shows_none : (is : List Machine_item) (k : ℕ) → entry_in (Is_mark ∷ is) k ≡ entry_in is k
mark_shows_none is k = owns_none Is_mark is k refl

pub value_alike : (us : List Machine_task) (h : Heap) (es es' : List Machine_item) (others : Others) →
    ((k : ℕ) → entry_in es k ≡ entry_in es' k) → (r : Place) → value_in us h es others r ≡ value_in us h es' others r
value_alike us h es es' others same x = grind arith

-- the items below what is last
pub below_same : (i : Machine_item) (is : List Machine_item) (js : List Item) → SameItems (i ∷ is) js → SameItems is (below_top js)
below_same i is js same = grind (arith, nat_tests, cons_given)

-- where a mark goes the items below it stay
pub unmarked : (is below : List Machine_item) (js : List Item) → is ≡ Is_mark ∷ below → SameItems is js → SameItems below (below_top js)
unmarked is below js e same = below_same Is_mark below js (subst (λ xs. SameItems xs js) e same)

pub and_true : {A : Type 0} (b : Bool) (x y : A) → cond b x y ≡ cond (b && true) x y
and_true x y z = grind arith

-- an object is pushed, and popped
pub value_pushed : (us : List Machine_task) (h : Heap) (es : List Machine_item) (others : Others) (n d : ℕ) →
    length es ≡ d → (r : Place) → value_in us h (Holds_object n ∷ es) others r ≡ changed (value_in us h es others) (Entry d) n r
value_pushed us h es others n d deep x = grind (arith, nat_tests, and_true)

pub value_popped : (us : List Machine_task) (h : Heap) (es : List Machine_item) (others : Others) (n d : ℕ) →
    length es ≡ d → (r : Place) → value_in us h es others r ≡ changed (value_in us h (Holds_object n ∷ es) others) (Entry d) null r
value_popped us h es others n d deep x = grind (arith, nat_tests, entry_past es, eqb-true d)

-- what it owns is found there
pub top_value : (us : List Machine_task) (h : Heap) (es : List Machine_item) (others : Others) (n d : ℕ) → length es ≡ d →
    value_in us h (Holds_object n ∷ es) others (Entry d) ≡ n
top_value us h es others n d deep = ap (λ b. cond b n (entry_in es d)) (eq-eqb (length es) d deep)

some_entry : (js : List Item) (k : ℕ) → is_some (entry_at js k) ≡ true → 0 < length js
some_entry js k e = some_members (λ xs. is_some (entry_at xs k) ≡ true) js e (λ none. false≢true none)

last_number : (i : Machine_item) (is : List Machine_item) (n : ℕ) → length is ≡ n → owned_by i ≡ entry_in (i ∷ is) n
last_number i is n e = sym (ap (λ b. cond b (owned_by i) (entry_in is n)) (eq-eqb (length is) n e))

less : (n : ℕ) → suc n - suc zero ≡ n
less n = omega arith

-- an entry that is counted from the last
pub entry_number : (is : List Machine_item) (js : List Item) (k n : ℕ) → SameItems is js → is_some (entry_at js k) ≡ true → n ≡ length js - suc k →
    number_in (item_at is k) ≡ entry_in is n
entry_number (i ∷ is) (An_object ∷ js) zero n same some at = last_number i is n (same_items_length is js same.1 ∙ sym (at ∙ less (length js)))
entry_number (i ∷ is) (An_operation m w ∷ js) zero n same some at = last_number i is n (same_items_length is js same.1 ∙ sym (at ∙ less (length js)))
entry_number (i ∷ is) (An_object ∷ js) (suc k) n same some at =
    grind (arith, nat_tests, same_items_length is js same.1, some_entry js k some, entry_number is js k n same.1 some, ne_eqb)
entry_number (i ∷ is) (An_operation m w ∷ js) (suc k) n same some at =
    grind (arith, nat_tests, same_items_length is js same.1, some_entry js k some, entry_number is js k n same.1 some, ne_eqb)
entry_number _ _ k n same some at = absurd (grind arith)
