-- Diagnoses at the places of refusals that are told of a text are told of it too.
use Rattle.std.proofs.Common.{◌≡◌, ◌∙◌, ◌<◌, [], ◌∷◌, All, List, ℕ, Option, Some, None, ap, arith, get_or, length, map, subst, sym}
use Rattle.std.specs.Prelude.{⊤}
use Rattle.std.proofs.lemmas.List.{get_or-map, length-map}
use Rattle.std.proofs.lemmas.List.Elements.{All-map, All-weaker}
use Rattle.aom_source.specs.Refusals.{IsToldIn, place_of}
use Rattle.aom_source.specs.declared.refusal.Refusal.{Refusal}
use Rattle.aom_source.specs.declared.refusal.Refusal.TheVariants as refusals
use Rattle.aom_source_tokens.specs.Places.{IsPlaceIn}
use Rattle.aom_source_tokens.specs.declared.place.Place.{Place}
use Rattle.aom_source_commands.specs.declared.diagnosing.Diagnosis.{Diagnosis}

abbrev IsIn : List ℕ → Option Place → Type 0
IsIn bytes None = ⊤
IsIn bytes (Some place) = IsPlaceIn bytes place

told_in : (bytes : List ℕ) (r : Refusal) → IsToldIn bytes r → IsIn bytes (place_of r)
told_in bytes (refusals.Token fault) told = told
told_in bytes (refusals.Syntax kind place) told = told
told_in bytes (refusals.Fault fault place) told = told
told_in bytes refusals.OutOfMemory told = told

unmapped : {X Y : Type 0} (P : X → Type 0) (f : Y → X) (ys : List Y) → All P (map f ys) → All (λ y. P (f y)) ys
unmapped P f ys all = λ k d within. subst P (get_or-map f ys k d (f d) within) (all k (f d) (subst (λ n. k < n) (sym (length-map ys f)) within))

pub placed : (bytes : List ℕ) (faults : List Diagnosis) (refusals : List Refusal) → map (λ d. Some d.place) faults ≡ map place_of refusals → All (IsToldIn bytes) refusals
    → All (λ d. IsPlaceIn bytes d.place) faults
placed bytes faults refusals same told =
    let all = All-map (IsIn bytes) place_of refusals (All-weaker _ _ (told_in bytes) refusals told) in
    unmapped (IsIn bytes) (λ d. Some d.place) faults (subst (All (IsIn bytes)) (sym same) all)

-- where there are refusals there are diagnoses
pub some_diagnoses : (faults : List Diagnosis) (refusals : List Refusal) → map (λ d. Some d.place) faults ≡ map place_of refusals → 0 < length refusals → faults ≡ [] → ⊥
some_diagnoses [] [] same some none = absurd (omega arith)
some_diagnoses [] (r ∷ refusals) same some none = absurd cc
some_diagnoses (f ∷ faults) refusals same some none = absurd cc
