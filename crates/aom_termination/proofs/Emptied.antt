-- Where nothing is at hand, or a dispatch alone, nothing is left of what was pushed.
use Rattle.std.proofs.lemmas.Bool.Decides.{nat_tests}
use Rattle.std.proofs.Common.{◌≡◌, ◌+◌, ◌∙◌, ℕ, true, false, cond, List, [], ◌∷◌, None, refl, sym, arith}
use Rattle.aom_image.specs.Image.{Image}
use Rattle.aom_typing_rules.specs.Typing.{Typing}
use Rattle.aom_termination.proofs.SemanticsLemmas.{same_place_refl}
use Rattle.aom_safety.specs.Claims.{Dispatching, forms, items_of}
use Rattle.aom_semantics.specs.Places.{Cell, Entry, Place, held, seen}
use Rattle.aom_semantics.specs.State.{Dispatch, Item, OwnedObject}
use Rattle.aom_safety.specs.WellTyped.{Good}
use Rattle.aom_termination.proofs.Goings.{none_there, nothing_of_null}
use Rattle.aom_static_bounds.specs.Prices.{Prices}
use Rattle.aom_termination.specs.Left.{is_entry, objects_left, operations_left}

module _ (c : Prices) where
  -- no cell is on the cleanup stack
  no_objects : (cs : List Cell) → ((k : ℕ) → held cs (Entry k) ≡ None) → objects_left c cs ≡ 0
  no_objects [] none = refl
  no_objects (x ∷ cs) none = here x.owner refl (no_objects cs (λ k. (none_there x cs (Entry k) (none k)).1))
    where
      here : (r : Place) → x.owner ≡ r → objects_left c cs ≡ 0 → cond (is_entry r) (c.destruction x.object.thing) 0 + objects_left c cs ≡ 0
      here (Entry k) e ih = let clash : true ≡ false = sym (grind (arith, nat_tests, same_place_refl (Entry k))) ∙ (none_there x cs (Entry k) (none k)).0 in cc
      here _ e ih = omega (arith, ih)

  no_operations : (items : List Item) → forms items ≡ [] → operations_left c items ≡ 0
  no_operations [] e = refl
  no_operations (i ∷ items) e = cc

  bare : (cs : List Cell) (items : List Item) → ((k : ℕ) → held cs (Entry k) ≡ None) → forms items ≡ [] → objects_left c cs + operations_left c items ≡ 0
  bare cs items none e = omega (arith, no_objects cs none, no_operations items e)

  pub no_current_task : (p : Image) (t : Typing) (cs : List Cell) (items : List Item) → Good p t cs [] → forms items ≡ items_of [] →
      objects_left c cs + operations_left c items ≡ 0
  no_current_task p t cs items good e = bare cs items (λ k. nothing_of_null p (seen cs) (held cs (Entry k)) (good.fits (Entry k))) e

  pub none_at_end : (p : Image) (t : Typing) (cs : List Cell) (items : List Item) (d : Dispatch) (owned_chain : List OwnedObject) →
      Good p t cs (Dispatching d owned_chain ∷ []) → forms items ≡ items_of (Dispatching d owned_chain ∷ []) → objects_left c cs + operations_left c items ≡ 0
  none_at_end p t cs items d owned_chain good e = bare cs items (λ k. nothing_of_null p (seen cs) (held cs (Entry k)) (good.fits (Entry k))) e
