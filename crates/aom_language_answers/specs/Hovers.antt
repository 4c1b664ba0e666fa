-- What is told of a name and of its line.
use Rattle.std.specs.Prelude.{ℕ, zero, suc, ◌+◌, ◌-◌, ◌==◌, ◌||◌, Bool, false, min, nat_lt, if◌then◌else◌, List, [], ◌∷◌, ◌++◌, codes, drop, flat_map, get_or, length, slice_index, take, Option, Some, None, unwrap_or}
use Rattle.aom_source_names.specs.Meanings.{definitions_of}
use Rattle.aom_source_names.specs.Spots.{spot_at}
use Rattle.aom_source_scopes.specs.Scopes.{word_at}
use Rattle.aom_source_scopes.specs.Words.{is_end}
use Rattle.aom_source_tokens.specs.Tokens.{Source, token_at}
use Rattle.serde_json.specs.Data.{Data, null, object, string, member, no_members}
use Rattle.aom_language_answers.specs.Places.{first_name_at, found_or, name_range}
use Rattle.aom_language_answers.specs.Positions.{range_data}
use Rattle.aom_language_answers.specs.Texts.{text_or_none}
use Rattle.aom_language_answers.specs.declared.position.Position.{Position}

abbrev pub is_blank : ℕ → Bool
is_blank byte = byte == 32 || byte == 9 || byte == 13 || byte == 10

-- how many of so many first bytes come before the blanks at their end
unfoldable pub trimmed_size : List ℕ → (count : ℕ) → ℕ
trimmed_size text zero = 0
trimmed_size text (suc n) = if is_blank (slice_index text n) then trimmed_size text n else suc n

abbrev pub trimmed : List ℕ → List ℕ
trimmed text = take (trimmed_size text (length text)) text

-- the first of so many tokens from one on that ends a statement or a head
unfoldable pub first_end : Source → (from count : ℕ) → Option ℕ
first_end s from zero = None
first_end s from (suc n) = found_or (first_end s from n) (is_end (word_at s (from + n))) (from + n)

abbrev pub head_end : Source → (from : ℕ) → ℕ
head_end s from = unwrap_or (first_end s from (length s.tokens - from)) (length s.tokens)

abbrev pub between : List ℕ → (begin end : ℕ) → List ℕ
between text begin end = take (end - begin) (drop begin text)

-- a declaration from the beginning of its statement to its brace or its semicolon, where these stand in the text
abbrev pub head_from : Source → (begin end : ℕ) → List ℕ
head_from s begin end = trimmed (between s.bytes (min begin end) end)

abbrev pub head_text : Source → (declared : ℕ) → List ℕ
head_text s declared = head_from s (token_at s (spot_at s declared).begin).place.at (min (token_at s (head_end s declared)).place.at (length s.bytes))

-- the note of a line, without the mark of a comment
abbrev pub unmarked : List ℕ → List ℕ
unmarked note = if nat_lt (length note) 5 then [] else drop 5 note ++ 10 ∷ []

abbrev pub note_text : (notes : List (List ℕ)) → (line : ℕ) → List ℕ
note_text notes line = unmarked (get_or notes line [])

-- the line of a token, counted from 0
abbrev pub line_of : Source → (at : ℕ) → ℕ
line_of s at = (token_at s at).place.line - 1

-- the head of a declaration, and the note of its line
abbrev pub declaration_text : Source → (notes : List (List ℕ)) → (declared : ℕ) → List ℕ
declaration_text s notes declared = (head_text s declared ++ 10 ∷ []) ++ note_text notes (line_of s declared)

abbrev pub declarations_text : Source → (notes : List (List ℕ)) → List ℕ → List ℕ
declarations_text s notes found = flat_map (declaration_text s notes) found

-- the declarations of a name, if there is one
abbrev pub found_at : Source → Option ℕ → List ℕ
found_at s None = []
found_at s (Some at) = definitions_of s at

-- the first of some declarations is in a line
abbrev pub begins_in : Source → List ℕ → (line : ℕ) → Bool
begins_in s [] line = false
begins_in s (declared ∷ more) line = line_of s declared == line

-- of the name at a position the first 16 declarations; then the note of the position's own line, unless the first of them is in it
abbrev pub hover_text : Source → (text : List ℕ) → (notes : List (List ℕ)) → Position → Option ℕ → List ℕ
hover_text s text notes wanted name =
    declarations_text s notes (take (min (length (found_at s name)) 16) (found_at s name)) ++ (if begins_in s (found_at s name) wanted.line then [] else note_text notes wanted.line)

-- ---- as JSON

abbrev pub contents_data : (told : List ℕ) → Data
contents_data told = object (member (codes "kind") (string (codes "plaintext")) (member (codes "value") (string told) no_members))

-- what is told, with the range of the name, if there is one
abbrev pub told_data : Source → (text : List ℕ) → (name : Option ℕ) → (told : List ℕ) → Data
told_data s text None told = object (member (codes "contents") (contents_data told) no_members)
told_data s text (Some at) told =
    object (member (codes "contents") (contents_data told) (member (codes "range") (range_data (name_range s text at)) no_members))

abbrev pub told_or_null : Source → (text : List ℕ) → (name : Option ℕ) → (told : List ℕ) → Data
told_or_null s text name told = if length told == 0 then null else told_data s text name told

-- null, where nothing is told
abbrev pub hover_data : Source → (text : List ℕ) → (notes : List (List ℕ)) → Position → Data
hover_data s text notes wanted =
    told_or_null s text (first_name_at s text wanted) (text_or_none (hover_text s text notes wanted (first_name_at s text wanted)))
