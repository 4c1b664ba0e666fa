-- The classes above each other, with one more.
use Rattle.std.proofs.Common.{◌≡◌, ◌∙◌, ◌+◌, List, [], ◌∷◌, ◌++◌, ℕ, suc, Option, Some, append_assoc, ap, arith, sym}
use Rattle.aom_source_tokens.specs.Tokens.{Source}
use Rattle.aom_source_names.specs.Meanings.{line_of, parent_of}

first_above : (s : Source) (before : List ℕ) (less class : ℕ) → (before ++ class ∷ []) ++ line_of s less (parent_of s class) ≡ before ++ line_of s (suc less) (Some class)
unfolding line_of
first_above s before less class = append_assoc before (class ∷ []) (line_of s less (parent_of s class))

pub one_more : (s : Source) (before after : List ℕ) (left less class : ℕ) (next parent : Option ℕ) (all : List ℕ) → left ≡ less + 1 → next ≡ Some class → parent ≡ parent_of s class
    → after ≡ before ++ class ∷ [] → before ++ line_of s left next ≡ all → after ++ line_of s less parent ≡ all
one_more s before after left less class next parent all count is above grown so_far =
    let suc_less : suc less ≡ left = grind (arith, count) in
    ap (λ xs. xs ++ line_of s less parent) grown
    ∙ ap (λ p. (before ++ class ∷ []) ++ line_of s less p) above
    ∙ first_above s before less class
    ∙ ap (λ n. before ++ line_of s n (Some class)) suc_less
    ∙ ap (λ o. before ++ line_of s left o) (sym is)
    ∙ so_far
