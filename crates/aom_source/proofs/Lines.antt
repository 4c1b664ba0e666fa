-- Lines that are written one behind the other, and the tokens that they come of.
use Rattle.std.proofs.Common.{◌≡◌, ◌∙◌, List, [], ◌∷◌, ◌++◌, ℕ, ◌+◌, ◌<◌, append_assoc, ap, sym, subst, map, take, get_or, length, flat_map, Option, Some}
use Rattle.std.proofs.lemmas.List.{append-nil, map_more, take_more}
use Rattle.std.proofs.lemmas.Grind.{flat_map-append}
use Rattle.aom_source_code.specs.declared.code.Code.{Code}
use Rattle.aom_source.specs.Map.{Adds, code_tokens, line_tokens, tokens_of}
use Rattle.aom_source.specs.declared.writing.Writing.{Writing}

pub adds_none : (a : Writing) → Adds a a []
adds_none a lacks = (lacks, sym (append-nil (tokens_of a.origins.items)))

pub then : (a b c : Writing) (xs ys : List ℕ) → Adds a b xs → Adds b c ys → Adds a c (xs ++ ys)
then a b c xs ys first second lacks =
    let later = second lacks in
    let before = first later.0 in
    (before.0, later.1 ∙ ap (λ t. t ++ ys) before.1 ∙ append_assoc (tokens_of a.origins.items) xs ys)

-- a line more for an element more
pub one_more : {X : Type 0} (f : X → ℕ) (a b c : Writing) (xs : List X) (i : ℕ) (d : X) → i < length xs → Adds a b (map f (take i xs))
    → Adds b c (f (get_or xs i d) ∷ []) → Adds a c (map f (take (i + 1) xs))
one_more f a b c xs i d within first second =
    subst (Adds a c) (sym (map_more f xs i d within)) (then a b c (map f (take i xs)) (f (get_or xs i d) ∷ []) first second)

-- the lines of an element more
pub some_more : {X : Type 0} (f : X → List ℕ) (a b c : Writing) (xs : List X) (i : ℕ) (d : X) → i < length xs → Adds a b (flat_map f (take i xs))
    → Adds b c (f (get_or xs i d)) → Adds a c (flat_map f (take (i + 1) xs))
some_more f a b c xs i d within first second =
    let x = get_or xs i d in
    let before = take i xs in
    let whole : flat_map f (take (i + 1) xs) ≡ flat_map f before ++ f x =
    ap (flat_map f) (take_more xs i d within) ∙ flat_map-append f before (x ∷ []) ∙ ap (λ t. flat_map f before ++ t) (append-nil (f x)) in
    subst (Adds a c) (sym whole) (then a b c (flat_map f before) (f x) first second)

-- the lines of a method: its head, its instructions, its end
pub method_is : (head end head' end' : ℕ) (code : Code) (found : Option Code) → head' ≡ head → found ≡ Some code → end' ≡ end
    → ((head ∷ []) ++ line_tokens code) ++ end ∷ [] ≡ head' ∷ code_tokens found ++ end' ∷ []
method_is head end head' end' code found first is last =
    append_assoc (head ∷ []) (line_tokens code) (end ∷ [])
    ∙ sym (ap (λ x. x ∷ code_tokens found ++ end' ∷ []) first ∙ ap (λ o. head ∷ code_tokens o ++ end' ∷ []) is ∙ ap (λ x. head ∷ line_tokens code ++ x ∷ []) last)
