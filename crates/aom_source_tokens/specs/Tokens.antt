-- The tokens of a text.
use Rattle.std.specs.Prelude.{ℕ, zero, suc, Bool, false, not, ◌&&◌, ◌==◌, ◌+◌, ◌^◌, nat_le, nat_lt, if◌then◌else◌, List, [], ◌∷◌, ◌++◌, length, take, drop, slice_index, slice_index_or, Option, Some, None, Result, Ok, Err}
use Rattle.std.specs.List.{position_or_len}
use Rattle.aom_source_tokens.specs.declared.keyword.Keyword.{Keyword}
use Rattle.aom_source_tokens.specs.declared.mark.Mark.{Mark}
use Rattle.aom_source_tokens.specs.declared.place.Place.{Place}
use Rattle.aom_source_tokens.specs.declared.token.Token.{Token}
use Rattle.aom_source_tokens.specs.declared.token.Kind.{Kind}
use Rattle.aom_source_tokens.specs.declared.token.Kind.TheVariants as t
use Rattle.aom_source_tokens.specs.declared.fault.TokenFault.{TokenFault}
use Rattle.aom_source_tokens.specs.declared.fault.TokenFaultKind.{TokenFaultKind}
use Rattle.aom_source_tokens.specs.declared.fault.TokenFaultKind.TheVariants.{BadByte, NumberRange, TextTooLong}
use Rattle.aom_source_tokens.specs.Bytes.{is_digit, is_letter, is_hexadecimal, is_number_byte, is_name_byte, gap_length}
use Rattle.aom_source_tokens.specs.Numbers.{decimal_value, hexadecimal_value}
use Rattle.aom_source_tokens.specs.Keywords.{keyword_of}
use Rattle.aom_source_tokens.specs.Marks.{mark_of_one, mark_of_two}
use Rattle.aom_source_tokens.specs.Places.{place_after, first_place}

-- what a token is
pub data Word : Type 0 where
  A_number : (value : ℕ) → Word
  A_name : (bytes : List ℕ) → Word
  A_keyword : (keyword : Keyword) → Word
  A_mark : (mark : Mark) → Word
  The_end : Word

abbrev pub word_of : Kind → Word
word_of (t.Number value) = A_number value
word_of (t.Name bytes) = A_name bytes.now
word_of (t.Keyword keyword) = A_keyword keyword
word_of (t.Mark mark) = A_mark mark
word_of t.End = The_end

-- a token, and where it begins
pub record Placed : Type 0 where
  pub word : Word
  pub place : Place

-- what comes first, and how many bytes it has; or what is wrong with it
abbrev pub Lexed : Type 0
Lexed = Result (Word × ℕ) TokenFaultKind

-- how many bytes it has
abbrev pub size_of : Lexed → ℕ
size_of (Ok first) = first.1
size_of (Err kind) = 0

-- how many bytes of a kind come first
abbrev pub length_of : (ℕ → Bool) → List ℕ → ℕ
length_of kind bytes = position_or_len (λ b. not (kind b)) bytes

-- a number of 32 bits
abbrev pub sized : ℕ → Result ℕ TokenFaultKind
sized value = if nat_lt value (2 ^ 32) then Ok value else Err NumberRange

-- a number that has this many bytes
abbrev pub number_of_size : Result ℕ TokenFaultKind → ℕ → Lexed
number_of_size (Ok value) size = Ok (A_number value, size)
number_of_size (Err fault) size = Err fault

-- bytes that begin with `0x` and a hexadecimal digit
abbrev pub begins_hexadecimal : List ℕ → Bool
begins_hexadecimal bytes = nat_le 3 (length bytes) && (slice_index bytes 0 == 48 && (slice_index bytes 1 == 120 && is_hexadecimal (slice_index bytes 2)))

abbrev pub lexed_hexadecimal : List ℕ → Lexed
lexed_hexadecimal digits = number_of_size (sized (hexadecimal_value (take (length_of is_hexadecimal digits) digits))) (2 + length_of is_hexadecimal digits)

abbrev pub lexed_decimal : List ℕ → Lexed
lexed_decimal bytes = number_of_size (sized (decimal_value (take (length_of is_number_byte bytes) bytes))) (length_of is_number_byte bytes)

abbrev pub lexed_number : List ℕ → Lexed
lexed_number bytes = if begins_hexadecimal bytes then lexed_hexadecimal (drop 2 bytes) else lexed_decimal bytes

-- a word of this many letters
abbrev pub keyword_or_name : Option Keyword → List ℕ → Word
keyword_or_name (Some keyword) word = A_keyword keyword
keyword_or_name None word = A_name word

abbrev pub lexed_word : List ℕ → Word × ℕ
lexed_word bytes =
    (keyword_or_name (keyword_of (take (length_of is_name_byte bytes) bytes)) (take (length_of is_name_byte bytes) bytes), length_of is_name_byte bytes)

abbrev pub short_mark : Option Mark → Lexed
short_mark (Some mark) = Ok (A_mark mark, 1)
short_mark None = Err BadByte

abbrev pub long_mark : Option Mark → Lexed → Lexed
long_mark (Some mark) short = Ok (A_mark mark, 2)
long_mark None short = short

-- the longest mark
abbrev pub lexed_mark : List ℕ → Lexed
lexed_mark [] = Err BadByte
lexed_mark (b ∷ []) = short_mark (mark_of_one b)
lexed_mark (b ∷ d ∷ bytes) = long_mark (mark_of_two b d) (short_mark (mark_of_one b))

-- the token with which bytes begin
abbrev pub lexed : List ℕ → Lexed
lexed [] = Ok (The_end, 0)
lexed (b ∷ bytes) = if is_digit b then lexed_number (b ∷ bytes) else if is_letter b then Ok (lexed_word (b ∷ bytes)) else lexed_mark (b ∷ bytes)

-- what is still to be read of a text, and its place
pub record Rest : Type 0 where
  pub place : Place
  pub bytes : List ℕ

-- as many bytes later
abbrev pub passed : ℕ → Rest → Rest
passed count r = record { place = place_after r.place (take count r.bytes); bytes = drop count r.bytes }

-- behind the blanks and comments that come first
abbrev pub skipped : Rest → Rest
skipped r = passed (gap_length false r.bytes) r

-- the tokens, and where the text ends; or the first fault
abbrev pub Read : Type 0
Read = Result (List Placed × Place) TokenFault

-- tokens before others
abbrev pub before : List Placed → Read → Read
before tokens (Ok others) = Ok (tokens ++ others.0, others.1)
before tokens (Err fault) = Err fault

-- the first token, and those behind it
abbrev pub tokens_behind : (Rest → Read) → Rest → Lexed → Read
tokens_behind others r (Ok first) = before (record { word = first.0; place = r.place } ∷ []) (others (skipped (passed first.1 r)))
tokens_behind others r (Err kind) = Err (record { kind = kind; place = r.place })

-- the tokens from one on, of which there are at most `most`
abbrev pub tokens_from : ℕ → Rest → Read
tokens_from zero r = Ok ([], r.place)
tokens_from (suc most) r = if length r.bytes == 0 then Ok ([], r.place) else tokens_behind (tokens_from most) r (lexed r.bytes)

-- the tokens of a text: each has a byte, so there are at most as many as bytes
abbrev pub tokens_of : List ℕ → Read
tokens_of text =
    if nat_lt (2 ^ 20) (length text) then Err (record { kind = TextTooLong; place = first_place })
    else tokens_from (length text) (skipped (record { place = first_place; bytes = text }))

-- a token of the program, as it is seen
abbrev pub placed_of : Token → Placed
placed_of t = record { word = word_of t.kind; place = t.place }

-- a text with its tokens, and where it ends
pub record Source : Type 0 where
  pub bytes : List ℕ
  pub tokens : List Placed
  pub end : Place

-- the token of a number, and behind the last the end
abbrev pub token_at : Source → ℕ → Placed
token_at s at = slice_index_or s.tokens at (record { word = The_end; place = s.end })
