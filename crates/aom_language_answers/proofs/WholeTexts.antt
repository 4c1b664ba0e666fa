-- The texts of changes, one behind the other.
use Rattle.std.proofs.Common.{◌≡◌, ◌∙◌, ◌≤◌, ◌<◌, ◌+◌, ◌-◌, ◌&&◌, ℕ, Bool, true, false, cond, List, [], ◌∷◌, ◌++◌, Option, None}
use Rattle.std.proofs.Common.{ap, arith, get_or, length, map, refl, sym, take}
use Rattle.std.proofs.lemmas.List.{get_or-map, length-map, length-take, map-append, take_all, take_more}
use Rattle.std.proofs.lemmas.List.Folds.{list_all-append, list_all_at}
use Rattle.std.proofs.Math.Seq.{get_or-append_seam}
use Rattle.std.specs.List.{list_all}
use Rattle.std.specs.Option.{is_some}
use Rattle.serde_json.specs.View.{items_view, view}
use Rattle.serde_json.specs.declared.value.Value.{Value}
use Rattle.aom_language_answers.specs.Parameters.{last_text, whole_text, whole_texts}

abbrev pub text_in : Value → Option (List ℕ)
text_in change = whole_text (view change)

texts_of_values : (changes : List Value) → whole_texts (items_view changes) ≡ map text_in changes
texts_of_values [] = refl
texts_of_values (change ∷ more) = ap (λ (texts : List (Option (List ℕ))). text_in change ∷ texts) (texts_of_values more)

-- ---- one change more

one_more : (changes : List Value) (i : ℕ) (d : Value) → i < length changes
    → map text_in (take (i + 1) changes) ≡ map text_in (take i changes) ++ text_in (get_or changes i d) ∷ []
one_more changes i d within = ap (map text_in) (take_more changes i d within) ∙ map-append text_in (take i changes) (get_or changes i d ∷ [])

all_behind : (texts : List (Option (List ℕ))) (text : Option (List ℕ)) → list_all is_some texts ≡ true → is_some text ≡ true → list_all is_some (texts ++ text ∷ []) ≡ true
all_behind texts text all is = list_all-append is_some texts (text ∷ []) ∙ ap (λ (b : Bool). b && (is_some text && true)) all ∙ ap (λ (b : Bool). b && true) is

pub all_more : (changes : List Value) (i : ℕ) (d : Value) → i < length changes → list_all is_some (map text_in (take i changes)) ≡ true
    → is_some (text_in (get_or changes i d)) ≡ true → list_all is_some (map text_in (take (i + 1) changes)) ≡ true
all_more changes i d within all is =
    ap (λ (texts : List (Option (List ℕ))). list_all is_some texts) (one_more changes i d within) ∙ all_behind (map text_in (take i changes)) (text_in (get_or changes i d)) all is

pub last_more : (changes : List Value) (i : ℕ) (d : Value) → i < length changes
    → text_in (get_or changes i d) ≡ get_or (map text_in (take (i + 1) changes)) (i + 1 - 1) None
last_more changes i d within =
    let place : i + 1 - 1 ≡ length (map text_in (take i changes)) = omega (arith, length-map (take i changes) text_in, length-take i changes) in
    sym (ap (λ (texts : List (Option (List ℕ))). get_or texts (i + 1 - 1) None) (one_more changes i d within)
    ∙ ap (λ (n : ℕ). get_or (map text_in (take i changes) ++ text_in (get_or changes i d) ∷ []) n None) place
    ∙ get_or-append_seam (map text_in (take i changes)) (text_in (get_or changes i d)) [] None)

-- ---- all changes

by_all : (b : Bool) (text : Option (List ℕ)) → b ≡ true → text ≡ cond b text None
by_all b text is = ap (λ (all : Bool). cond all text None) (sym is)

pub whole_last : (changes : List Value) (i : ℕ) (text : Option (List ℕ)) → length changes ≤ i → i ≤ length changes → list_all is_some (map text_in (take i changes)) ≡ true
    → text ≡ get_or (map text_in (take i changes)) (i - 1) None → text ≡ last_text (whole_texts (items_view changes))
whole_last changes i text over within all last =
    let texts : map text_in (take i changes) ≡ whole_texts (items_view changes) = ap (map text_in) (take_all i changes over) ∙ sym (texts_of_values changes) in
    let place : i - 1 ≡ length (map text_in changes) - 1 = omega (arith, length-map changes text_in) in
    last
    ∙ ap (λ (ts : List (Option (List ℕ))). get_or ts (i - 1) None) texts
    ∙ ap (λ (n : ℕ). get_or (whole_texts (items_view changes)) n None) (place ∙ ap (λ (ts : List (Option (List ℕ))). length ts - 1) (sym (texts_of_values changes)))
    ∙ by_all (list_all is_some (whole_texts (items_view changes))) _ (ap (λ (ts : List (Option (List ℕ))). list_all is_some ts) (sym texts) ∙ all)

pub refused : (changes : List Value) (i : ℕ) (d : Value) → i < length changes → is_some (text_in (get_or changes i d)) ≡ false
    → None ≡ last_text (whole_texts (items_view changes))
refused changes i d within none =
    let there : i < length (map text_in changes) = omega (arith, length-map changes text_in) in
    let lacks : is_some (get_or (map text_in changes) i None) ≡ false = ap is_some (get_or-map text_in changes i d None within) ∙ none in
    let all : list_all is_some (whole_texts (items_view changes)) ≡ false =
    ap (λ (ts : List (Option (List ℕ))). list_all is_some ts) (texts_of_values changes) ∙ list_all_at is_some (map text_in changes) i None there lacks in
    sym (ap (λ (b : Bool). cond b (get_or (whole_texts (items_view changes)) (length (whole_texts (items_view changes)) - 1) None) None) all)
