-- What is written of a list and of one more element, by the number of that element.
use Rattle.std.proofs.Common.{◌≡◌, ◌∙◌, ap, sym, ℕ, ◌+◌, ◌<◌, List, [], ◌∷◌, ◌++◌, append_assoc, length, take, slice_index_or, arith}
use Rattle.std.proofs.lemmas.List.{append-nil, length-take-le, take_more}
use Rattle.aom_cost_report.specs.Each.{each}

-- one text behind another
pub then : (text after end one two : List ℕ) → after ≡ text ++ one → end ≡ after ++ two → end ≡ text ++ (one ++ two)
then text after end one two first second = second ∙ ap (λ t. t ++ two) first ∙ append_assoc text one two

-- of elements, and of others after them
each_append : {X : Type 0} (f : ℕ → X → List ℕ) (number : ℕ) (xs ys : List X) → each f number (xs ++ ys) ≡ each f number xs ++ each f (number + length xs) ys
each_append f number [] ys = ap (λ n. each f n ys) (omega arith)
each_append f number (x ∷ xs) ys =
    let later : (number + 1) + length xs ≡ number + length (x ∷ xs) = omega arith in
    ap (λ t. f number x ++ t) (each_append f (number + 1) xs ys ∙ ap (λ n. each f (number + 1) xs ++ each f n ys) later)
    ∙ sym (append_assoc (f number x) (each f (number + 1) xs) (each f (number + length (x ∷ xs)) ys))

-- of elements, and of one more
each_one : {X : Type 0} (f : ℕ → X → List ℕ) (xs : List X) (x : X) → each f 0 (xs ++ x ∷ []) ≡ each f 0 xs ++ f (length xs) x
each_one f xs x =
    let here : 0 + length xs ≡ length xs = omega arith in
    each_append f 0 xs (x ∷ []) ∙ ap (λ n. each f 0 xs ++ each f n (x ∷ [])) here ∙ ap (λ t. each f 0 xs ++ t) (append-nil (f (length xs) x))

-- what is written so far, when one more is written
pub each_more : {X : Type 0} (f : ℕ → X → List ℕ) (front text new : List ℕ) (xs : List X) (place number : ℕ) (x : X) → number ≡ place → place < length xs →
    x ≡ slice_index_or xs place x → text ≡ front ++ each f 0 (take place xs) → new ≡ text ++ f number x → new ≡ front ++ each f 0 (take (place + 1) xs)
each_more f front text new xs place number x same within is so_far written =
    let more : take (place + 1) xs ≡ take place xs ++ x ∷ [] = take_more xs place x within ∙ ap (λ y. take place xs ++ y ∷ []) (sym is) in
    let here : length (take place xs) ≡ place = length-take-le place xs (omega (arith, within)) in
    let whole : each f 0 (take (place + 1) xs) ≡ each f 0 (take place xs) ++ f place x =
    ap (λ t. each f 0 t) more ∙ each_one f (take place xs) x ∙ ap (λ n. each f 0 (take place xs) ++ f n x) here in
    written ∙ ap (λ n. text ++ f n x) same ∙ ap (λ t. t ++ f place x) so_far ∙ append_assoc front (each f 0 (take place xs)) (f place x)
    ∙ ap (λ t. front ++ t) (sym whole)
