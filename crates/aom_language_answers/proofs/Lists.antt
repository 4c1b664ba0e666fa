-- Values of a list, one behind the other.
use Rattle.std.proofs.Common.{◌≡◌, ◌∙◌, ◌≤◌, ◌<◌, ◌+◌, List, [], ◌∷◌, ◌++◌, ℕ, ap, length, map, slice_index, sym, take}
use Rattle.std.proofs.lemmas.List.{map-append, take_all, take_more}
use Rattle.serde_json.specs.Data.{Data}
use Rattle.serde_json.specs.View.{view}
use Rattle.serde_json.specs.declared.value.Value.{Value}

-- one value more is of the next number
pub pushed : (f : ℕ → Data) (before after : List Value) (v : Value) (found : List ℕ) (i : ℕ) → i < length found → map view before ≡ map f (take i found) → after ≡ before ++ v ∷ []
    → view v ≡ f (slice_index found i) → map view after ≡ map f (take (i + 1) found)
pushed f before after v found i within so_far grown is =
    ap (map view) grown
    ∙ map-append view before (v ∷ [])
    ∙ ap (λ ds. ds ++ view v ∷ []) so_far
    ∙ ap (λ d. map f (take i found) ++ d ∷ []) is
    ∙ sym (map-append f (take i found) (slice_index found i ∷ []))
    ∙ ap (map f) (sym (take_more found i 0 within))

-- all values are of all numbers
pub whole : (f : ℕ → Data) (values : List Value) (found : List ℕ) (i : ℕ) → length found ≤ i → map view values ≡ map f (take i found) → map view values ≡ map f found
whole f values found i all so_far = so_far ∙ ap (map f) (take_all i found all)
