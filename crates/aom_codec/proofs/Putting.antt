-- What a loop puts behind bytes: the spellings of the elements so far.
use Rattle.std.proofs.Common.{◌≡◌, ◌∙◌, ℕ, ◌+◌, ◌<◌, ◌≤◌, List, [], ◌∷◌, ◌++◌, length, take, flat_map, sym, ap, append_assoc}
use Rattle.std.specs.Prelude.{slice_index_or}
use Rattle.std.proofs.lemmas.List.{append-nil, take_all, take_more}
use Rattle.std.proofs.lemmas.Grind.{flat_map-append}

module _ {X : Type 0} (f : X → List ℕ) (front : List ℕ) (xs : List X) (i : ℕ) where
  -- one element more
  pub one_more : (x : X) {text new : List ℕ} → i < length xs → x ≡ slice_index_or xs i x → text ≡ front ++ flat_map f (take i xs) → new ≡ text ++ f x →
      new ≡ front ++ flat_map f (take (i + 1) xs)
  one_more x lt is before adds = let more = ap (flat_map f) (take_more xs i x lt ∙ ap (λ y. take i xs ++ y ∷ []) (sym is))
      ∙ flat_map-append f (take i xs) (x ∷ []) ∙ ap (λ t. flat_map f (take i xs) ++ t) (append-nil (f x)) in
      adds ∙ ap (λ t. t ++ f x) before ∙ append_assoc front (flat_map f (take i xs)) (f x) ∙ ap (λ t. front ++ t) (sym more)

  -- all of them
  pub all_put : {text : List ℕ} → length xs ≤ i → text ≡ front ++ flat_map f (take i xs) → text ≡ front ++ flat_map f xs
  all_put le before = before ∙ ap (λ ys. front ++ flat_map f ys) (take_all i xs le)
