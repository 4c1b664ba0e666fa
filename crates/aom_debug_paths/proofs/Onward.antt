-- What is owned at a place is followed from object to object.
use Rattle.std.proofs.Common.{◌≡◌, ◌∙◌, ◌<◌, ◌≤◌, ◌+◌, ℕ, List, Option, Some, None, ap, get_or, length, refl, subst, sym, take}
use Rattle.std.specs.List.{fold}
use Rattle.std.proofs.lemmas.List.{take_all}
use Rattle.std.proofs.lemmas.List.Sums.{fold_more}
use Rattle.aom_image.specs.Image.{Image}
use Rattle.aom_image.specs.declared.method.Thing.TheVariants.{Message as A_message}
use Rattle.aom_roles.specs.Things.{is_object}
use Rattle.aom_semantics.specs.Places.{Object, Place, held}
use Rattle.aom_semantics.specs.State.{State}
use Rattle.aom_machine_state.specs.Stands.{Stands}
use Rattle.aom_machine_state.specs.declared.parts.Parts.{Parts}
use Rattle.aom_debug_paths.proofs.MachineInstructionsLemmas.{object_lives}
use Rattle.aom_debug_views.specs.Holdings.{HoldsSo}
use Rattle.aom_debug_views.specs.CellViews.{class_in, class_of}
use Rattle.aom_debug_views.specs.declared.holding.Holding.{Holding}
use Rattle.aom_debug_views.specs.declared.holding.Holding.TheVariants as holds
use Rattle.aom_debug_protocol.specs.declared.way.Branch.{Branch}
use Rattle.aom_debug_paths.specs.Paths.{IsAlive, IsHeld, branch_place, follow_branch, owned_by}

-- what a place holds, as a value
pub held_so : (s : State) (r : Place) (h : Holding) → HoldsSo s r h → IsHeld s (held s.cells r) h
held_so s r holds.Nothing is = is
held_so s r (holds.Object cell class) is = is
held_so s r (holds.Message source) is = is

-- of the same
pub held_same : (s : State) (x y : Option Object) (h : Holding) → x ≡ y → IsHeld s x h → IsHeld s y h
held_same s x y h same is = subst (λ o. IsHeld s o h) same is

-- on from an object to what a branch leads to
pub onward_object : (s : State) (o : Option Object) (cell class : ℕ) (b : Branch) (h : Holding) →
    IsHeld s o (holds.Object cell class) → IsHeld s (held s.cells (branch_place cell b)) h → IsHeld s (follow_branch s.cells o b) h
onward_object s o cell class b h is there = held_same s _ _ h (ap (λ n. held s.cells (branch_place n b)) (sym is.3)
    ∙ ap (λ t. owned_by t (held s.cells (branch_place is.0.name b))) (sym is.2) ∙ ap (λ x. follow_branch s.cells x b) (sym is.1)) there

-- from nothing, and from a message, to nothing
pub onward_nothing : (s : State) (o : Option Object) (b : Branch) → o ≡ None → follow_branch s.cells o b ≡ None
onward_nothing s o b is = ap (λ x. follow_branch s.cells x b) is

pub onward_message : (s : State) (o : Option Object) (b : Branch) (x : Object) → o ≡ Some x → x.thing ≡ A_message → follow_branch s.cells o b ≡ None
onward_message s o b x is message = ap (λ y. follow_branch s.cells y b) is ∙ ap (λ t. owned_by t (held s.cells (branch_place x.name b))) message

-- what is no object has no class
pub classless : (s : State) (x : Option Object) (h : Holding) → IsHeld s x h → ((cell class : ℕ) → h ≡ holds.Object cell class → ⊥) → class_of x ≡ None
classless s x holds.Nothing is other = ap class_of is
classless s x (holds.Object cell class) is other = absurd (other cell class refl)
classless s x (holds.Message source) is other = ap class_of is.1 ∙ ap class_in is.2

-- what a place of a state holds is alive
pub is_alive : (p : Image) (m : Parts) (st : Stands (record { image = p; parts = m })) (r : Place) (h : Holding) → HoldsSo st.0 r h → IsAlive m h
is_alive p m st r holds.Nothing is = tt
is_alive p m st r (holds.Object cell class) is = object_lives p m st.1.typing st.0 st.1.typed st.1.agrees r is.0 cell is.1 (ap is_object is.2) (sym is.3)
is_alive p m st r (holds.Message source) is = tt

-- ---- branches one after another

module _ (s : State) (start : Option Object) (xs ys : List Branch) (same : ys ≡ xs) (i : ℕ) where
  abbrev to : ℕ → Option Object
  to n = fold (follow_branch s.cells) start (take n xs)

  pub one_more : (x : Branch) → i < length ys → x ≡ get_or ys i x → follow_branch s.cells (to i) x ≡ to (i + 1)
  one_more x less is =
      ap (follow_branch s.cells (to i)) (is ∙ ap (λ zs. get_or zs i x) same) ∙ sym (fold_more (follow_branch s.cells) start xs i x (subst (λ zs. i < length zs) same less))

  pub all_branches : length ys ≤ i → to i ≡ fold (follow_branch s.cells) start xs
  all_branches past = ap (fold (follow_branch s.cells) start) (take_all i xs (subst (λ zs. length zs ≤ i) same past))
