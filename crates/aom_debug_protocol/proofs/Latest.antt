-- To keep the latest of a list that was cut so before is to keep the latest of the whole, by lengths of what is dropped.
use Rattle.std.proofs.Common.{◌≡◌, ◌≤◌, ℕ, ◌+◌, ◌-◌, List, [], ◌∷◌, ◌++◌, drop, length, length-append, length-drop, ap, ◌∙◌, arith}
use Rattle.std.proofs.lemmas.List.{drop-drop}
use Rattle.std.proofs.lemmas.Grind.{common_steps}
use Rattle.circular_buffer.specs.Buffer.{keep_last}

drop-front : {X : Type 0} (n : ℕ) (xs ys : List X) → n ≤ length xs → drop n xs ++ ys ≡ drop n (xs ++ ys)
drop-front n xs ys within = grind (arith, common_steps)

pub keep_last-more : {X : Type 0} (n : ℕ) (xs : List X) (x : X) → keep_last n (keep_last n xs ++ x ∷ []) ≡ keep_last n (xs ++ x ∷ [])
keep_last-more {X} n xs x =
    let a = length xs - n in
    let front : drop a xs ++ x ∷ [] ≡ drop a (xs ++ x ∷ []) = drop-front a xs (x ∷ []) (omega arith) in
    let b = length (drop a xs ++ x ∷ []) - n in
    let sum : a + b ≡ length (xs ++ x ∷ []) - n = omega (arith, length-append (drop a xs) (x ∷ []), length-append xs (x ∷ []), length-drop a xs) in
    ap (drop b) front ∙ drop-drop b a (xs ++ x ∷ []) ∙ ap (λ (k : ℕ). drop k (xs ++ x ∷ [])) sum
