-- The arguments of a call move one after the other.
use Rattle.std.proofs.Common.{◌≡◌, ℕ, suc, ◌+◌, ◌<◌, ◌≤◌, List, ◌∷◌, length, drop, sym, ap, ◌∙◌, arith}
use Rattle.std.proofs.Math.Seq.{drop-cons}
use Rattle.std.proofs.Math.ListN.{drop_of_length-le}
use Rattle.std.specs.Prelude.{slice_index_or}
use Rattle.aom_image.specs.declared.method.Argument.{Argument}
use Rattle.aom_abstract_state.specs.Arguments.{argument_moved, arguments_moved}
use Rattle.aom_abstract_state.specs.AbstractState.{AbstractState}

-- the arguments from one on: that one, and those after it
pub split : (xs : List Argument) (i : ℕ) (x : Argument) → i < length xs → x ≡ slice_index_or xs i x → drop i xs ≡ x ∷ drop (suc i) xs
split xs i x within e = drop-cons xs i x within ∙ ap (λ (y : Argument). y ∷ drop (suc i) xs) (sym e)

pub after : (first i : ℕ) → suc (first + i) ≡ first + (i + 1)
after first i = omega arith

pub one_on : (xs : List Argument) (i : ℕ) → drop (suc i) xs ≡ drop (i + 1) xs
one_on xs i = let e : suc i ≡ i + 1 = omega arith in ap (λ (k : ℕ). drop k xs) e

-- one more has moved
pub moves_one : (xs : List Argument) (first i : ℕ) (x : Argument) (sh : AbstractState) → i < length xs → x ≡ slice_index_or xs i x →
    arguments_moved (drop i xs) (first + i) sh ≡ arguments_moved (drop (i + 1) xs) (first + (i + 1)) (argument_moved x (first + i) sh)
moves_one xs first i x sh within e =
    ap (λ (l : List Argument). arguments_moved l (first + i) sh) (split xs i x within e ∙ ap (λ (l : List Argument). x ∷ l) (one_on xs i))
    ∙ ap (λ (k : ℕ). arguments_moved (drop (i + 1) xs) k (argument_moved x (first + i) sh)) (after first i)

pub moves_done : (xs : List Argument) (i n : ℕ) (sh : AbstractState) → length xs ≤ i → arguments_moved (drop i xs) n sh ≡ sh
moves_done xs i n sh ended = ap (λ (l : List Argument). arguments_moved l n sh) (drop_of_length-le xs ended)
