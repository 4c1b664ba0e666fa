-- A dispatch ends: the run goes on, or it is over, or the root goes first.
use Rattle.std.proofs.lemmas.Bool.Decides.{nat_tests}
use Rattle.aom_safety.proofs.Asking.{error_enters}
use Rattle.std.proofs.Common.{[], ℕ, Bool, List, None, Option, Some, ap, arith, false, length, refl, subst, sym, true, ◌∷◌, ◌≡◌, ℤ, ⊎_elim}
use Rattle.aom_image.specs.Image.{Image}
use Rattle.aom_typing_rules.specs.Typing.{IsTyped, Typing}
use Rattle.aom_abstract_state.specs.declared.kind.Kind.TheVariants.{Null}
use Rattle.aom_safety.proofs.Destroying.{no_going, goes_well}
use Rattle.aom_safety.proofs.Straight.{fits_unowning}
use Rattle.aom_safety.specs.Claims.{by_close, by_stage, Dispatching, Layer, claim, declared, forms, items_of, tasks_of, is_of_root}
use Rattle.aom_safety.specs.Laws.{IsWired}
use Rattle.aom_semantics.specs.Moves.{needs_end, dispatch_ends, main_ends, main_left, over, root_removed, answered, handled, object_ends}
use Rattle.aom_semantics.specs.Places.{Elsewhere, Going, Object, Place, Root, changed, held, seen}
use Rattle.aom_semantics.specs.State.{guarded, Of_server, Dispatch, Item, Main_left, Of_main, Of_root, State, Answered, Asks, Object_left, Of_object, OwnedObject}
use Rattle.aom_safety.specs.WellTyped.{PreservesTyping, AllUndo, Fits, Good, WellTyped}
use Rattle.aom_abstract_state.specs.declared.kind.Kind.{Kind}
use Rattle.aom_safety.proofs.Parting.{stage_keeps}

-- what holds of the root once it is gone
pub root_gone : (p : Image) (t : Typing) (s : State) (owned_chain : List OwnedObject) (ls : List Layer) → Good p t s.cells (Dispatching Of_root owned_chain ∷ ls) →
    held s.cells (Elsewhere Root) ≡ None
root_gone p t s owned_chain ls good = fits_unowning p (seen s.cells) _ Null refl (good.fits (Elsewhere Root))

no_items : (items : List Item) → forms items ≡ [] → items ≡ []
no_items [] e = refl
no_items (i ∷ items) e = cc

-- no server is dispatched
abbrev serves_none : Dispatch → Bool
serves_none (Of_server x client stage) = false
serves_none _ = true

none_parts : (d : Dispatch) → serves_none d ≡ true → (n c : ℕ) (k : Kind) → by_close d n c k ≡ k
none_parts x e n c k = grind arith

none_served : (d : Dispatch) → serves_none d ≡ true → (k : Kind) → by_stage d k ≡ k
none_served x e k = grind arith

module _ (p : Image) (t : Typing) (s : State) where
  -- with nothing at hand
  idle : (s' : State) (d : Dispatch) (owned_chain : List OwnedObject) → serves_none d ≡ true → s'.cells ≡ s.cells → s'.tasks ≡ [] → s'.items ≡ [] →
      Good p t s.cells (Dispatching d owned_chain ∷ []) → WellTyped p t s'
  idle s' d owned_chain plain cells tasks items good = record {
    layers = [];
    tasks = tasks;
    items = ap forms items;
    undo_operations = subst (λ is. AllUndo p is) (sym items) tt;
    good = subst (λ cs. Good p t cs []) (sym cells) (record { stack = refl; fits = fits d plain good; conforms_to = good.conforms_to; no_duplicates = good.no_duplicates });
  }
    where
      fits : (d : Dispatch) → serves_none d ≡ true → Good p t s.cells (Dispatching d owned_chain ∷ []) → (r : Place) →
          Fits p (seen s.cells) (held s.cells r) (declared p s.cells r)
      fits x y z r = grind (arith, nat_tests, root_gone p t s owned_chain, none_parts d plain, none_served d plain Null)

  -- the root goes
  removes_root : IsWired p → IsTyped p t → (d : Dispatch) (owned_chain : List OwnedObject) → serves_none d ≡ true → is_of_root d ≡ false →
      (o : Object) → held s.cells (Elsewhere Root) ≡ Some o → s.items ≡ [] → Good p t s.cells (Dispatching d owned_chain ∷ []) → WellTyped p t (root_removed p o s)
  removes_root wired typed d owned_chain plain other o there items good =
      let q = Elsewhere Root in
      let g = Going (length (tasks_of (Dispatching Of_root [] ∷ []))) in
      let before = Dispatching d owned_chain ∷ [] in
      let below = Dispatching Of_root [] ∷ [] in
      let free = no_going p t s.cells o q before below good.fits there (omega arith) claims in
      goes_well p t s.cells o q before below good.fits there (omega arith) claims wired typed good.no_duplicates (tt, refl, tt, refl, tt)
      (record { some = λ x. ⊎_elim (λ y. y) (λ y. y) x; unclaimed = λ f. refl; none_in = (tt, tt); unworked = tt; sessions = λ d c. refl })
      good.conforms_to (root_removed p o s) (length s.items) (ap length items) refl refl (ap forms items) (subst (λ is. AllUndo p is) (sym items) tt)
    where
      claims : (r : Place) → claim p (declared p s.cells) (Dispatching Of_root [] ∷ []) r
          ≡ changed (claim p (declared p s.cells) (Dispatching d owned_chain ∷ [])) (Elsewhere Root) Null r
      claims x = grind (arith, nat_tests, none_parts d plain, none_served d plain)

  -- a dispatch ends, and the root goes first where the run stops
  closes : IsWired p → IsTyped p t → (d : Dispatch) (owned_chain : List OwnedObject) → serves_none d ≡ true → is_of_root d ≡ false → s.items ≡ [] → Good p t s.cells
      (Dispatching d owned_chain ∷ []) → (b : Bool) (root : Option Object) → held s.cells (Elsewhere Root) ≡ root → WellTyped p t (main_ends p b root s)
  closes wired typed d owned_chain plain other items good x root e = grind (arith, nat_tests, removes_root wired typed d owned_chain plain other, idle)

module _ (p : Image) (t : Typing) (s : State) (wired : IsWired p) (typed : IsTyped p t) (items : s.items ≡ []) where
  of_object : (d : Dispatch) (owned_chain : List OwnedObject) → serves_none d ≡ true → is_of_root d ≡ false → Good p t s.cells (Dispatching d owned_chain ∷ []) →
      WellTyped p t (object_ends p s)
  of_object d owned_chain plain other good = closes p t (handled s) wired typed d owned_chain plain other items good s.rest.stopped (held s.cells (Elsewhere Root)) refl

  with_answer : (d : Dispatch) (owned_chain : List OwnedObject) (answer : ℤ) → serves_none d ≡ true → is_of_root d ≡ false → Good p t s.cells (Dispatching d owned_chain ∷ []) →
      WellTyped p t (answered p answer s)
  with_answer d owned_chain answer plain other good = grind (arith, nat_tests, of_object d owned_chain plain other good, idle p t s)

  -- each kind of dispatch
  ends : (d : Dispatch) (owned_chain : List OwnedObject) → Good p t s.cells (Dispatching d owned_chain ∷ []) → PreservesTyping p t (guarded (needs_end d s.cells) (dispatch_ends p d s))
  ends (Of_server x client stage) owned_chain good = stage_keeps p t s x client owned_chain stage items good
  ends Of_root owned_chain good = idle p t s (over s) Of_root owned_chain refl refl refl items good
  ends (Main_left code) owned_chain good = idle p t s (main_left code s) (Main_left code) owned_chain refl refl refl items good
  ends Of_main owned_chain good = closes p t s wired typed Of_main owned_chain refl refl items good s.rest.stopped (held s.cells (Elsewhere Root)) refl
  ends (Of_object x) owned_chain good = of_object (Of_object x) owned_chain refl refl good
  ends (Object_left x code) owned_chain good =
      grind (arith, nat_tests, with_answer (Object_left x code) owned_chain code, error_enters p t wired typed s x code owned_chain items good)
  ends (Asks x) owned_chain good = of_object (Asks x) owned_chain refl refl good
  ends (Answered x answer) owned_chain good = with_answer (Answered x answer) owned_chain answer refl refl good

pub dispatch_keeps : (p : Image) (t : Typing) → IsWired p → IsTyped p t → (s : State) (d : Dispatch) (owned_chain : List OwnedObject) (ls : List Layer) →
    Good p t s.cells (Dispatching d owned_chain ∷ ls) → forms s.items ≡ items_of ls → PreservesTyping p t (guarded (needs_end d s.cells) (dispatch_ends p d s))
dispatch_keeps p t wired typed s d owned_chain ls good items = grind (arith, nat_tests, ends p t s wired typed, no_items s.items)
