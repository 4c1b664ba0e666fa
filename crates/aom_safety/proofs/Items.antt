-- What the layers know of the cleanup stack's items.
use Rattle.std.proofs.lemmas.Bool.Decides.{nat_tests}
use Rattle.std.proofs.Common.{List, [], ap, arith, cond, false, length, refl, suc, true, zero, ℕ, ◌+◌, ◌-◌, ◌<◌, ◌==◌, ◌∷◌, ◌≡◌}
use Rattle.std.proofs.lemmas.Bool.{eq-eqb, eqb-true, ne_eqb}
use Rattle.std.specs.Prelude.{is_some}
use Rattle.aom_image.specs.Image.{Image}
use Rattle.aom_abstract_state.specs.Entries.{made_ready_at}
use Rattle.aom_abstract_state.specs.Kinds.{entry_kind, is_unowning, made_ready}
use Rattle.aom_roles.specs.Tables.{at}
use Rattle.aom_abstract_state.specs.declared.kind.CleanupEntry.{CleanupEntry}
use Rattle.aom_abstract_state.specs.declared.kind.CleanupEntry.TheVariants.{Object as Pushed_object, Operation as Pushed_operation}
use Rattle.aom_abstract_state.specs.declared.kind.Kind.{Kind}
use Rattle.aom_semantics.specs.Calls.{below_top, entry_at, is_no_operation, top_matches_mark}
use Rattle.aom_safety.specs.Claims.{Form, Layer, Mark_form, Method, entry_claim, entry_form, forms, items_of, objects, tasks_of}
use Rattle.aom_semantics.specs.State.{A_mark, An_object, An_operation, Frame, Item, Run, State}
use Rattle.aom_safety.specs.WellTyped.{AllUndo, Good, WellTyped}
use Rattle.aom_semantics.specs.Places.{Cell}
use Rattle.aom_abstract_state.specs.AbstractState.{AbstractState}
use Rattle.aom_typing_rules.specs.Typing.{Typing}

pub length_forms : (items : List Item) → length (forms items) ≡ length items
length_forms [] = refl
length_forms (i ∷ items) = ap suc (length_forms items)

-- below the last item
pub forms_below : (items : List Item) (x : Form) (rest : List Form) → forms items ≡ x ∷ rest → forms (below_top items) ≡ rest
forms_below y x rest e = grind arith

-- a mark is the last item
pub mark_on_top : (items : List Item) (rest : List Form) → forms items ≡ Mark_form ∷ rest → top_matches_mark items ≡ true
mark_on_top x rest e = grind arith

pub undo_operations_below : (p : Image) (items : List Item) → AllUndo p items → AllUndo p (below_top items)
undo_operations_below p x u = grind arith

-- an item for each entry
pub length_each : (es : List CleanupEntry) (below : List Form) → length (objects es below) ≡ length es + length below
length_each [] below = omega arith
length_each (e ∷ es) below = omega (arith, length_each es below)

-- the form of no entry is a mark's
pub no_mark : (x : CleanupEntry) → Mark_form ≡ entry_form x → ⊥
no_mark x e = grind arith

-- an entry is among the items
pub entry_there : (es : List CleanupEntry) (below : List Form) (items : List Item) (k : ℕ) → forms items ≡ objects es below → k < length es →
    is_some (entry_at items k) ≡ true
entry_there (x ∷ es) below (An_object ∷ items) zero e lt = refl
entry_there (x ∷ es) below (An_object ∷ items) (suc k) e lt = let same : forms items ≡ objects es below = cc in entry_there es below items k same (omega arith)
entry_there (x ∷ es) below (An_operation m w ∷ items) zero e lt = refl
entry_there (x ∷ es) below (An_operation m w ∷ items) (suc k) e lt = grind (arith, nat_tests, entry_there es below items k)
entry_there (x ∷ es) below (A_mark ∷ items) k e lt = absurd (no_mark x cc)
entry_there _ below _ k e lt = absurd (first_of (cc, omega arith))

-- an entry that owns is no operation
pub entry_owns : (es : List CleanupEntry) (below : List Form) (items : List Item) (k : ℕ) →
    forms items ≡ objects es below → k < length es → is_unowning (entry_kind (at Pushed_operation es k)) ≡ false → is_no_operation (entry_at items k) ≡ true
entry_owns (x ∷ es) below (An_object ∷ items) (suc k) e lt own = grind (arith, nat_tests, entry_owns es below items k)
entry_owns (x ∷ es) below (An_operation m w ∷ items) (suc k) e lt own = grind (arith, nat_tests, entry_owns es below items k)
entry_owns x below y k e lt own = grind arith

-- an entry that becomes ready is an item as before
pub made_ready_items : (es : List CleanupEntry) (k : ℕ) (below : List Form) → objects (made_ready_at es k) below ≡ objects es below
made_ready_items [] k below = refl
made_ready_items (Pushed_object c a ∷ es) zero below = refl
made_ready_items (Pushed_operation ∷ es) zero below = refl
made_ready_items (e ∷ es) (suc k) below = ap (λ fs. entry_form e ∷ fs) (made_ready_items es k below)

-- what is claimed of an entry, counted from the last
pub entry_claimed : (es : List CleanupEntry) (below : List Form) (k : ℕ) (rest : Kind) → k < length es →
    entry_claim es below (length (objects es below) - suc k) rest ≡ entry_kind (at Pushed_operation es k)
entry_claimed [] below k rest lt = absurd (omega arith)
entry_claimed (x ∷ es) below zero rest lt = grind (arith, nat_tests, eq-eqb)
entry_claimed (x ∷ es) below (suc k) rest lt = grind (arith, nat_tests, length_each es below, ne_eqb, entry_claimed es below k rest)

-- that entry alone is claimed anew
pub made_ready_claim : (es : List CleanupEntry) (below : List Form) (k j : ℕ) (rest : Kind) → k < length es → entry_claim (made_ready_at es k) below j rest ≡ cond
    ((length (objects es below) - suc k) == j) (made_ready (entry_kind (at Pushed_operation es k))) (entry_claim es below j rest)
made_ready_claim [] below k j rest lt = absurd (omega arith)
made_ready_claim (x ∷ es) below zero j rest lt = grind (arith, nat_tests)
made_ready_claim (x ∷ es) below (suc k) j rest lt =
    grind (arith, nat_tests, made_ready_items es k below, made_ready_claim es below k j rest, length_each es below, eqb-true)

-- a method that begins with no entry over layers that are as they should be
pub begins_well : (p : Image) (t : Typing) (cs : List Cell) (fr : Frame) (sh : AbstractState) (over : List Layer) (s : State) → sh.entries ≡ [] →
    Good p t cs (Method fr sh ∷ over) → s.cells ≡ cs → s.tasks ≡ Run fr ∷ tasks_of over → forms s.items ≡ items_of over → AllUndo p s.items → WellTyped p t s
begins_well p t cs fr sh over s none good cells tasks items undo_operations = search (arith, nat_tests)
