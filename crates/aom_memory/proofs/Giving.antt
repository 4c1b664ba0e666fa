-- What a slice's reader gives at once follows what it gave before.
use Rattle.std.proofs.Common.{◌≡◌, ◌∙◌, ◌+◌, ◌-◌, ℕ, List, ◌++◌, ap, drop, length, subst, sym, take}
use Rattle.std.proofs.Math.Seq.{take-add, take-append_seam, take-length}
use Rattle.std.proofs.lemmas.List.{length-drop}

pub gives_more : (text copied after : List ℕ) (given count : ℕ) → copied ≡ take count (take (length text - given) (drop given text)) → length copied ≡ count →
    take (given + count) text ≡ take given text ++ take count (copied ++ after)
gives_more text copied after given count is long =
    let rest = drop given text in
    let whole : take (length text - given) rest ≡ rest = ap (λ n. take n rest) (sym (length-drop given text)) ∙ take-length rest in
    let seam : take count (copied ++ after) ≡ copied = subst (λ n. take n (copied ++ after) ≡ copied) long (take-append_seam copied after) in
    take-add given count text ∙ ap (λ t. take given text ++ t) (sym (ap (take count) whole) ∙ sym is ∙ sym seam)
