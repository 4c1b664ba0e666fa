-- Faults as they are told, one behind the other.
use Rattle.std.proofs.Common.{◌≡◌, ◌∙◌, ◌≤◌, ◌<◌, ◌+◌, List, [], ◌∷◌, ◌++◌, ℕ, ap, get_or, length, map, sym, take}
use Rattle.std.proofs.lemmas.List.{map-append, take_all, take_more}
use Rattle.serde_json.specs.Data.{Data}
use Rattle.serde_json.specs.View.{view}
use Rattle.serde_json.specs.declared.value.Value.{Value}
use Rattle.aom_source_commands.specs.declared.diagnosing.Diagnosis.{Diagnosis}

-- one value more is of the next fault
pub pushed : (f : Diagnosis → Data) (before after : List Value) (v : Value) (faults : List Diagnosis) (i : ℕ) (d : Diagnosis) → i < length faults
    → map view before ≡ map f (take i faults) → after ≡ before ++ v ∷ [] → view v ≡ f d → d ≡ get_or faults i d → map view after ≡ map f (take (i + 1) faults)
pushed f before after v faults i d within so_far grown is item =
    ap (map view) grown
    ∙ map-append view before (v ∷ [])
    ∙ ap (λ ds. ds ++ view v ∷ []) so_far
    ∙ ap (λ e. map f (take i faults) ++ e ∷ []) (is ∙ ap f item)
    ∙ sym (map-append f (take i faults) (get_or faults i d ∷ []))
    ∙ ap (map f) (sym (take_more faults i d within))

-- all values are of all faults
pub whole : (f : Diagnosis → Data) (values : List Value) (faults : List Diagnosis) (i : ℕ) → length faults ≤ i → map view values ≡ map f (take i faults)
    → map view values ≡ map f faults
whole f values faults i all so_far = so_far ∙ ap (map f) (take_all i faults all)
