-- The lines of a text, each with the token of the source that it comes of.
use Rattle.std.specs.Prelude.{ℕ, ◌-◌, ◌==◌, List, [], get_or}
use Rattle.std.specs.List.{after_first}
use Rattle.aom_text.specs.Text.{lines_of}

-- what stands in a line behind its comment's mark
abbrev pub comment_of : (line : List ℕ) → List ℕ
comment_of line = after_first (λ b. b == 35) line

-- the line of a number, of which the first is 1
abbrev pub text_line : (text : List ℕ) → (line : ℕ) → List ℕ
text_line text line = get_or (lines_of text) (line - 1) []

-- the token that it comes of
abbrev pub line_token : (tokens : List ℕ) → (line : ℕ) → ℕ
line_token tokens line = get_or tokens (line - 1) 0
