-- What is written of a list and of one more element, by the place of that element.
use Rattle.std.proofs.Common.{◌≡◌, ◌∙◌, ap, refl, sym, ℕ, ◌+◌, ◌<◌, List, [], ◌∷◌, ◌++◌, append_assoc, flat_map, length, take, slice_index_or, arith}
use Rattle.std.proofs.lemmas.Grind.{flat_map-append}
use Rattle.std.proofs.lemmas.List.{append-nil, length-take-le, take_more}
use Rattle.aom_disassembler.specs.Listing.{lines_text, placed}
use Rattle.aom_disassembler.specs.Text.{line_of}

-- of elements, and of others after them
pub placed-append : {X Y : Type 0} (f : ℕ → X → Y) (place : ℕ) (xs ys : List X) → placed f place (xs ++ ys) ≡ placed f place xs ++ placed f (place + length xs) ys
placed-append f place [] ys = ap (λ n. placed f n ys) (omega arith)
placed-append f place (x ∷ xs) ys =
    let later : (place + 1) + length xs ≡ place + length (x ∷ xs) = omega arith in
    ap (λ t. f place x ∷ t) (placed-append f (place + 1) xs ys ∙ ap (λ n. placed f (place + 1) xs ++ placed f n ys) later)

-- of elements, and of one more
pub placed-more : {X Y : Type 0} (f : ℕ → X → Y) (xs : List X) (x : X) → placed f 0 (xs ++ x ∷ []) ≡ placed f 0 xs ++ f (length xs) x ∷ []
placed-more f xs x =
    let here : 0 + length xs ≡ length xs = omega arith in
    placed-append f 0 xs (x ∷ []) ∙ ap (λ n. placed f 0 xs ++ f n x ∷ []) here

-- what is written so far, when one more is written
pub written_more : {X Y : Type 0} (write : Y → List ℕ) (f : ℕ → X → Y) (front text new : List ℕ) (xs : List X) (place : ℕ) (x : X)
    → place < length xs → x ≡ slice_index_or xs place x → text ≡ front ++ flat_map write (placed f 0 (take place xs)) → new ≡ text ++ write (f place x)
    → new ≡ front ++ flat_map write (placed f 0 (take (place + 1) xs))
written_more write f front text new xs place x within is so_far written =
    let more : take (place + 1) xs ≡ take place xs ++ x ∷ [] = take_more xs place x within ∙ ap (λ y. take place xs ++ y ∷ []) (sym is) in
    let here : length (take place xs) ≡ place = length-take-le place xs (omega (arith, within)) in
    let one : placed f 0 (take (place + 1) xs) ≡ placed f 0 (take place xs) ++ f place x ∷ [] =
    ap (λ t. placed f 0 t) more ∙ placed-more f (take place xs) x ∙ ap (λ n. placed f 0 (take place xs) ++ f n x ∷ []) here in
    let whole : flat_map write (placed f 0 (take (place + 1) xs)) ≡ flat_map write (placed f 0 (take place xs)) ++ write (f place x) =
    ap (λ t. flat_map write t) one ∙ flat_map-append write (placed f 0 (take place xs)) (f place x ∷ [])
    ∙ ap (λ t. flat_map write (placed f 0 (take place xs)) ++ t) (append-nil (write (f place x))) in
    written ∙ ap (λ t. t ++ write (f place x)) so_far ∙ append_assoc front (flat_map write (placed f 0 (take place xs))) (write (f place x))
    ∙ ap (λ t. front ++ t) (sym whole)

-- lines of groups of statements are the lines of the statements in a row
pub lines_flat : (groups : List (List (List (List ℕ)))) → flat_map lines_text groups ≡ lines_text (flat_map (λ statements. statements) groups)
lines_flat [] = refl
lines_flat (g ∷ gs) = ap (λ t. lines_text g ++ t) (lines_flat gs) ∙ sym (flat_map-append line_of g (flat_map (λ statements. statements) gs))
