-- What a token declares, by the words beside it and at the beginning of its statement or head.
use Rattle.std.specs.Prelude.{ℕ, ◌+◌, ◌-◌, ◌==◌, ◌&&◌, ◌||◌, Bool, false, if◌then◌else◌, Option, Some, None}
use Rattle.aom_source_scopes.specs.Scopes.{word_at}
use Rattle.aom_source_scopes.specs.Words.{is_let}
use Rattle.aom_source_tokens.specs.Tokens.{Source, Word, A_keyword, A_mark}
use Rattle.aom_source_tokens.specs.declared.keyword.Keyword.TheVariants as k
use Rattle.aom_source_tokens.specs.declared.mark.Mark.TheVariants as m
use Rattle.aom_source_names.specs.Spots.{spot_at}
use Rattle.aom_source_names.specs.Words.{begins_role, is_colon, is_enum, is_name}
use Rattle.aom_source_names.specs.declared.spot.Spot.{Spot}
use Rattle.aom_source_names.specs.declared.declared.Declared.{Declared}
use Rattle.aom_source_names.specs.declared.declared.Declared.TheVariants as d

-- a token in the declaration that a name begins is between the braces of an enum
abbrev pub is_of_enum : Source → Option ℕ → Bool
is_of_enum s None = false
is_of_enum s (Some outer) = is_enum (word_at s (outer - 1))

abbrev pub is_in_enum : Source → Spot → Bool
is_in_enum s spot = spot.depth == 1 && is_of_enum s spot.outer

-- a name behind `fn`
abbrev pub function_or_method : ℕ → Declared
function_or_method depth = if depth == 0 then d.Function else d.Method

-- a name behind a parenthesis or a comma of a head: it has a type behind it, or the head is one of those that have none
abbrev pub parameter : Source → (at : ℕ) → (first : Word) → Option Declared
parameter s at first = if begins_role first || is_colon (word_at s (at + 1)) then Some d.Parameter else None

-- a name behind a comma, by the first word of its statement or head
abbrev pub listed : Source → (at : ℕ) → (first : Word) → Option Declared
listed s at (A_keyword k.Word) = Some d.Word
listed s at (A_keyword k.Let) = if is_let (word_at s (at - 3)) then Some d.Local else None
listed s at first = parameter s at first

-- a name, by the word before it
abbrev pub declared_behind : Source → (at : ℕ) → (before : Word) → Option Declared
declared_behind s at (A_keyword k.Class) = Some d.Class
declared_behind s at (A_keyword k.Enum) = Some d.Enum
declared_behind s at (A_keyword k.Const) = Some d.Const
declared_behind s at (A_keyword k.Fn) = Some (function_or_method (spot_at s at).depth)
declared_behind s at (A_keyword k.Undo) = Some d.Undo
declared_behind s at (A_keyword k.Word) = Some d.Word
declared_behind s at (A_keyword k.Own) = Some d.Owner
declared_behind s at (A_keyword k.Let) = Some d.Local
declared_behind s at (A_keyword k.For) = Some d.Local
declared_behind s at (A_keyword k.Catch) = Some d.Local
declared_behind s at (A_mark m.OpenBrace) = if is_in_enum s (spot_at s at) then Some d.Member else None
declared_behind s at (A_mark m.Comma) = if is_in_enum s (spot_at s at) then Some d.Member else listed s at (word_at s (spot_at s at).begin)
declared_behind s at (A_mark m.OpenParenthesis) = parameter s at (word_at s (spot_at s at).begin)
declared_behind s at _ = None

-- what the token of a number declares
abbrev pub declared_as : Source → (at : ℕ) → Option Declared
declared_as s at = if is_name (word_at s at) then declared_behind s at (word_at s (at - 1)) else None
