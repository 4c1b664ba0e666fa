-- A text with notes behind its lines, byte by byte.
use Rattle.std.proofs.Common.{◌≡◌, ◌≢◌, ◌∙◌, ℕ, ◌+◌, ◌<◌, ◌≤◌, List, ◌++◌, drop, get_or, length, ap, arith, sym, []}
use Rattle.std.proofs.lemmas.List.{append_assoc, at_drop_all, at_drop_more}
use Rattle.aom_source_commands.specs.Showing.{line_behind, shown, shown_byte}

shown_more : (notes : List (List ℕ)) (source : List ℕ) (line i d : ℕ) → i < length source
    → shown notes line (drop i source) ≡ shown_byte notes line (get_or source i d) ++ shown notes (line_behind line (get_or source i d)) (drop (i + 1) source)
unfolding shown
shown_more notes source line i d within = at_drop_more (λ bs. shown notes line bs) source i d within

-- one byte more
pub one_more : (notes : List (List ℕ)) (source text more all : List ℕ) (line next i d : ℕ) → i < length source → text ++ shown notes line (drop i source) ≡ all
    → more ≡ text ++ shown_byte notes line (get_or source i d) → next ≡ line_behind line (get_or source i d) → more ++ shown notes next (drop (i + 1) source) ≡ all
one_more notes source text more all line next i d within so grown behind =
    ap (λ m. m ++ shown notes next (drop (i + 1) source)) grown
    ∙ ap (λ n. (text ++ shown_byte notes line (get_or source i d)) ++ shown notes n (drop (i + 1) source)) behind
    ∙ append_assoc text (shown_byte notes line (get_or source i d)) (shown notes (line_behind line (get_or source i d)) (drop (i + 1) source))
    ∙ ap (λ t. text ++ t) (sym (shown_more notes source line i d within)) ∙ so

pub feed_behind : (line b : ℕ) → b ≡ 10 → line + 1 ≡ line_behind line b
feed_behind line b is = ap (λ x. line_behind line x) (sym is)

pub other_behind : (line b : ℕ) → b ≢ 10 → line ≡ line_behind line b
other_behind line b other = grind arith

pub shown_end : (notes : List (List ℕ)) (source : List ℕ) (line i : ℕ) → length source ≤ i → shown notes line (drop i source) ≡ get_or notes line []
unfolding shown
shown_end notes source line i behind = at_drop_all (λ bs. shown notes line bs) source i behind
