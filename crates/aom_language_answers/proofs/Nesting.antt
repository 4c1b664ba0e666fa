-- The symbols of declarations, from one that is in no other to the next.
use Rattle.std.proofs.Common.{◌≡◌, ◌∙◌, ◌+◌, ◌<◌, ℕ, suc, Bool, true, false, cond, List, [], ◌∷◌, ◌++◌, add-one, ap, append_assoc, arith, drop, get_or, length, map, refl, sym, take}
use Rattle.std.proofs.Math.Seq.{drop-cons}
use Rattle.std.proofs.lemmas.List.{drop-drop}
use Rattle.std.specs.List.{prefix_len}
use Rattle.aom_source_tokens.specs.Tokens.{Source}
use Rattle.serde_json.specs.Data.{Data}
use Rattle.aom_language_answers.specs.Outline.{Behind, behind_of, inner_data, is_declared_in, symbol_data, symbols_from, symbols_of, with_inner}

-- the first so many of some declarations are in the one before
abbrev behind_by : Source → (text : List ℕ) → (others : List ℕ) → (count : ℕ) → Behind
behind_by s text others count = record { inner = take count others; symbols = symbols_of s text (drop count others) }

one_more : (n : ℕ) → 1 + n ≡ suc n
one_more n = omega arith

first_behind : (s : Source) (text : List ℕ) (at : ℕ) (others : List ℕ) (n : ℕ) (b : Bool) (behind : Behind) → behind ≡ behind_by s text others n
    → cond b (with_inner at behind) (record { inner = []; symbols = symbols_from s text at (behind_of s text at others) }) ≡ behind_by s text (at ∷ others) (cond b (1 + n) 0)
first_behind s text at others n true behind is = ap (with_inner at) is ∙ ap (λ (k : ℕ). behind_by s text (at ∷ others) k) (sym (one_more n))
first_behind s text at others n false behind is = refl

behind_is : (s : Source) (text : List ℕ) (outer : ℕ) (others : List ℕ) → behind_of s text outer others ≡ behind_by s text others (prefix_len (is_declared_in s outer) others)
unfolding behind_of
behind_is s text outer [] = refl
behind_is s text outer (at ∷ others) = first_behind s text at others (prefix_len (is_declared_in s outer) others) (is_declared_in s outer at)
    (behind_of s text outer others) (behind_is s text outer others)

from_first : (s : Source) (text : List ℕ) (at : ℕ) (others : List ℕ) (n : ℕ) → n ≡ prefix_len (is_declared_in s at) others
    → symbols_of s text (at ∷ others) ≡ symbol_data s text at (map (inner_data s text) (take n others)) ∷ symbols_of s text (drop n others)
from_first s text at others n is = ap (symbols_from s text at) (behind_is s text at others ∙ ap (λ (k : ℕ). behind_by s text others k) (sym is))

from_place : (s : Source) (text found : List ℕ) (begin n : ℕ) → begin < length found → n ≡ prefix_len (is_declared_in s (get_or found begin 0)) (drop (begin + 1) found)
    → symbols_of s text (drop begin found)
    ≡ symbol_data s text (get_or found begin 0) (map (inner_data s text) (take n (drop (begin + 1) found))) ∷ symbols_of s text (drop (begin + 1 + n) found)
from_place s text found begin n within is =
    ap (λ (others : List ℕ). symbols_of s text others) (drop-cons found begin 0 within ∙ ap (λ (k : ℕ). get_or found begin 0 ∷ drop k found) (sym (add-one begin)))
    ∙ from_first s text (get_or found begin 0) (drop (begin + 1) found) n is
    ∙ ap (λ (others : List ℕ). symbol_data s text (get_or found begin 0) (map (inner_data s text) (take n (drop (begin + 1) found))) ∷ symbols_of s text others) (drop-drop n (begin + 1) found)

-- with one symbol more, those that are left are behind what is in it
pub grown : (s : Source) (text found : List ℕ) (begin n : ℕ) (symbols all : List Data) (symbol : Data) → begin < length found
    → n ≡ prefix_len (is_declared_in s (get_or found begin 0)) (drop (begin + 1) found)
    → symbol ≡ symbol_data s text (get_or found begin 0) (map (inner_data s text) (take n (drop (begin + 1) found))) → symbols ++ symbols_of s text (drop begin found) ≡ all
    → (symbols ++ symbol ∷ []) ++ symbols_of s text (drop (begin + 1 + n) found) ≡ all
grown s text found begin n symbols all symbol within is one so_far =
    let first : symbols_of s text (drop begin found) ≡ symbol ∷ symbols_of s text (drop (begin + 1 + n) found) =
    from_place s text found begin n within is ∙ ap (λ (d : Data). d ∷ symbols_of s text (drop (begin + 1 + n) found)) (sym one) in
    append_assoc symbols (symbol ∷ []) (symbols_of s text (drop (begin + 1 + n) found)) ∙ ap (λ (ds : List Data). symbols ++ ds) (sym first) ∙ so_far
