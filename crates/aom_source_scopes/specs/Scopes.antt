-- Where the name that a token declares holds.
use Rattle.std.specs.Prelude.{ℕ, zero, suc, ◌+◌, ◌-◌, Bool, true, false, not, ◌&&◌, ◌||◌, nat_le, if◌then◌else◌, drop, length}
use Rattle.aom_source_tokens.specs.Tokens.{Source, Word, A_keyword, A_mark, token_at}
use Rattle.aom_source_tokens.specs.declared.keyword.Keyword.TheVariants as k
use Rattle.aom_source_tokens.specs.declared.mark.Mark.TheVariants as m
use Rattle.aom_source_scopes.specs.Blocks.{next_close, own_close}
use Rattle.aom_source_scopes.specs.Words.{is_end, is_if, is_let, may_declare}

abbrev pub word_at : Source → ℕ → Word
word_at s at = (token_at s at).word

-- a statement declares it in the block in which it stands: `let x`, not `if let x`, or `let x, e`, by the three words before it
abbrev pub is_of_block : (third second first : Word) → Bool
is_of_block third second (A_keyword k.Let) = not (is_if second)
is_of_block third second (A_mark m.Comma) = is_let third
is_of_block third second _ = false

-- it stands where a name is declared
abbrev pub is_declared : Source → (declared : ℕ) → Bool
is_declared s declared = may_declare (word_at s (declared - 1))

-- the brace at which the name does not hold any more, by how many tokens come from it on: of the block in which it is declared, or of the next
abbrev pub scope_close : Source → (declared : ℕ) → ℕ
scope_close s declared =
    if is_of_block (word_at s (declared - 3)) (word_at s (declared - 2)) (word_at s (declared - 1)) then own_close (drop declared s.tokens)
    else next_close (drop declared s.tokens)

-- so many tokens from one on are of one statement or head
unfoldable pub is_one_part : Source → (first count : ℕ) → Bool
is_one_part s first zero = true
is_one_part s first (suc count) = is_one_part s first count && not (is_end (word_at s (first + count)))

-- a token is in the scope: from the statement or head on that declares the name, up to the brace that closes the block
abbrev pub holds_at : Source → (declared token : ℕ) → Bool
holds_at s declared token =
    nat_le (scope_close s declared) (length s.tokens - token) && (nat_le declared token || is_one_part s token (declared - token))
