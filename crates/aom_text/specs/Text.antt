-- The statements of a text: it is split into lines, each line at its comment's mark and at semicolons.
use Rattle.std.specs.Prelude.{ℕ, Bool, true, false, not, ◌==◌, ◌+◌, if◌then◌else◌, List, [], ◌∷◌, ◌++◌, map, filter, length, Option, Some, None}
use Rattle.std.specs.List.{slice_split, find, before_first, after_first}
use Rattle.aom_text.specs.Words.{is_plain, has_bytes, words}
use Rattle.aom_text.specs.declared.text.Statement.{Statement}
use Rattle.aom_text.specs.declared.text.LineCursor.{LineCursor}
use Rattle.aom_text.specs.declared.text.Rest.{Rest}

-- ---- lines

-- what parts between line feeds are lines: an empty last one is none
abbrev pub true_lines : List (List ℕ) → List (List ℕ)
true_lines [] = []
true_lines (part ∷ []) = if has_bytes part then part ∷ [] else []
true_lines (part ∷ next ∷ more) = part ∷ true_lines (next ∷ more)

-- the lines of a text: each ends with a line feed, which the last may lack
abbrev pub lines_of : List ℕ → List (List ℕ)
lines_of text = true_lines (slice_split (λ b. b == 10) text)

-- how many lines a text has
abbrev pub line_count : List ℕ → ℕ
line_count text = length (lines_of text)

-- ---- statements

-- words, of which there are some
abbrev pub has_words : List (List ℕ) → Bool
has_words [] = false
has_words (w ∷ ws) = true

-- the words of the parts between semicolons, where there are some
abbrev pub worded : List ℕ → List (List (List ℕ))
worded code = filter has_words (map words (slice_split (λ b. b == 59) code))

-- words before others, where there are some
abbrev pub put_words : List (List ℕ) → List (List (List ℕ)) → List (List (List ℕ))
put_words [] rest = rest
put_words (w ∷ ws) rest = (w ∷ ws) ∷ rest

-- words that stand in a line
abbrev pub in_line : ℕ → List (List ℕ) → Statement
in_line number ws = record { line = number; words = ws }

-- a byte that a text may not have counts as a statement
abbrev pub other_byte : ℕ → Option ℕ → List Statement
other_byte number None = []
other_byte number (Some b) = in_line number ((b ∷ []) ∷ []) ∷ []

-- the first such byte of a comment
abbrev pub comment_statements : ℕ → List ℕ → List Statement
comment_statements number comment = other_byte number (find (λ b. not (is_plain b)) comment)

-- a line's statements, without and with a comment behind them
abbrev pub parted : ℕ → List ℕ → List ℕ → List Statement
parted number code comment = map (in_line number) (worded code) ++ comment_statements number comment

-- the statements of a line: of what stands before the comment's mark, and of the comment
abbrev pub line_statements : ℕ → List ℕ → List Statement
line_statements number line = parted number (before_first (λ b. b == 35) line) (after_first (λ b. b == 35) line)

-- the statements of lines, from that number on
abbrev pub statements_from : ℕ → List (List ℕ) → List Statement
statements_from number [] = []
statements_from number (line ∷ lines) = line_statements number line ++ statements_from (number + 1) lines

-- the statements of a text
abbrev pub statements : List ℕ → List Statement
statements text = statements_from 1 (lines_of text)

-- ---- what is left while they are read

-- of a line
abbrev pub left_of_line : LineCursor → List Statement
left_of_line line = parted line.number line.code.now line.comment.now

-- of a text
abbrev pub left_of_text : Rest → List Statement
left_of_text text = left_of_line text.line ++ statements_from (text.line.number + 1) (lines_of text.later.now)

-- the first statement
abbrev pub first_statement : List Statement → Option Statement
first_statement = elim [ [] ↦ None | s ∷ ss ↦ Some s ]

-- the statements after the first
abbrev pub other_statements : List Statement → List Statement
other_statements = elim [ [] ↦ [] | s ∷ ss ↦ ss ]
