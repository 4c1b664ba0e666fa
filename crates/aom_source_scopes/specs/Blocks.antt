-- Blocks, by the braces behind a token. A token is told by how many tokens come from it on.
use Rattle.std.specs.Prelude.{ℕ, suc, ◌-◌, List, [], ◌∷◌, ◌++◌, get_or, length, take}
use Rattle.aom_source_tokens.specs.Tokens.{Placed, Word, A_mark}
use Rattle.aom_source_tokens.specs.declared.mark.Mark.TheVariants as m

-- the braces that still close a block, where one token more comes before them
abbrev pub closers_from : Word → (here : ℕ) → List ℕ → List ℕ
closers_from (A_mark m.CloseBrace) here later = later ++ here ∷ []
closers_from (A_mark m.OpenBrace) here later = take (length later - 1) later
closers_from _ here later = later

-- the braces that close blocks begun before these tokens, the innermost last
unfoldable pub closers : List Placed → List ℕ
closers [] = []
closers (t ∷ ts) = closers_from t.word (suc (length ts)) (closers ts)

-- the last of some braces, or 0
abbrev pub innermost : List ℕ → ℕ
innermost braces = get_or braces (length braces - 1) 0

-- the brace that closes the block in which the first of these tokens stands, or 0 where none does
abbrev pub own_close : List Placed → ℕ
own_close ts = innermost (closers ts)

abbrev pub next_from : Word → (own next : ℕ) → ℕ
next_from (A_mark m.OpenBrace) own next = own
next_from _ own next = next

-- the brace that closes the block which opens next, or 0 where none opens
unfoldable pub next_close : List Placed → ℕ
next_close [] = 0
next_close (t ∷ ts) = next_from t.word (own_close ts) (next_close ts)
