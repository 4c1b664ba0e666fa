-- What a search by a test finds in a list, place by place.
use Rattle.std.proofs.Common.{◌≡◌, ◌∙◌, ◌<◌, ◌≤◌, ◌+◌, ℕ, zero, suc, Bool, true, false, cond, List, [], ◌∷◌, Option, Some, None, length, drop, get_or, refl}
use Rattle.std.proofs.Common.{sym, ap, arith, add-one, length-drop}
use Rattle.std.specs.List.{find}

module _ {X : Type 0} (test : X → Bool) where
  from_place : (xs : List X) (i : ℕ) (d : X) → i < length xs →
      find test (drop i xs) ≡ cond (test (get_or xs i d)) (Some (get_or xs i d)) (find test (drop (suc i) xs))
  from_place [] i d lt = absurd (omega arith)
  from_place (x ∷ xs) zero d lt = refl
  from_place (x ∷ xs) (suc i) d lt = from_place xs i d (omega arith)

  -- one that passes is found, one that does not is passed by, and past the last there is none
  pub found : (xs : List X) (i : ℕ) (d : X) (w : Option X) (r : Bool) → i < length xs → w ≡ find test (drop i xs) → r ≡ test (get_or xs i d) → r ≡ true →
      Some (get_or xs i d) ≡ w
  found xs i d w r lt so is pass =
      let here : test (get_or xs i d) ≡ true = sym is ∙ pass in
      sym (so ∙ (from_place xs i d lt ∙ ap (λ (b : Bool). cond b (Some (get_or xs i d)) (find test (drop (suc i) xs))) here))

  pub passed : (xs : List X) (i : ℕ) (d : X) (w : Option X) (r : Bool) → i < length xs → w ≡ find test (drop i xs) → r ≡ test (get_or xs i d) → r ≡ false →
      w ≡ find test (drop (i + 1) xs)
  passed xs i d w r lt so is fails =
      let here : test (get_or xs i d) ≡ false = sym is ∙ fails in
      rw add-one (so ∙ (from_place xs i d lt ∙ ap (λ (b : Bool). cond b (Some (get_or xs i d)) (find test (drop (suc i) xs))) here))

  none_in : (xs : List X) → length xs ≡ 0 → find test xs ≡ None
  none_in [] h = refl
  none_in (x ∷ xs) h = absurd (omega arith)

  pub none_left : (xs : List X) (i : ℕ) (w : Option X) → length xs ≤ i → w ≡ find test (drop i xs) → None ≡ w
  none_left xs i w le so = sym (so ∙ none_in (drop i xs) (omega (arith, length-drop i xs)))
