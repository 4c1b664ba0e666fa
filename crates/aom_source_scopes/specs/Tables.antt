-- Blocks, for each token by how many tokens come from it on.
use Rattle.std.specs.Prelude.{ℕ, ◌≡◌, List, [], ◌∷◌, ◌++◌}
use Rattle.aom_source_tokens.specs.Tokens.{Placed}
use Rattle.aom_source_scopes.specs.Blocks.{closers, next_close, own_close}
use Rattle.aom_source_scopes.specs.declared.blocks.Blocks.{Blocks}

-- what is said of each number of last tokens, of none first
unfoldable pub table : (List Placed → ℕ) → List Placed → List ℕ
table f [] = f [] ∷ []
table f (t ∷ ts) = table f ts ++ f (t ∷ ts) ∷ []

-- the blocks are those of the tokens
pub record AreOf (ts : List Placed) (b : Blocks) : Type 0 where
  pub closers : b.closers.items ≡ closers ts
  pub own : b.own.items ≡ table own_close ts
  pub next : b.next.items ≡ table next_close ts
