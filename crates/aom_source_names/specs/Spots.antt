-- Where a token stands, by the tokens before it.
use Rattle.std.specs.Prelude.{ℕ, zero, suc, ◌+◌, ◌-◌, ◌^◌, ◌==◌, ◌||◌, nat_le, min, if◌then◌else◌, List, [], ◌∷◌, ◌++◌, get_or, length, Some, None}
use Rattle.aom_source_scopes.specs.Scopes.{word_at}
use Rattle.aom_source_tokens.specs.Tokens.{Source, Word, A_mark, A_name}
use Rattle.aom_source_tokens.specs.declared.mark.Mark.TheVariants as m
use Rattle.aom_source_names.specs.Words.{is_class, is_enum}
use Rattle.aom_source_names.specs.declared.spot.Spot.{Spot}

abbrev pub first_spot : Spot
first_spot = record { begin = 0; depth = 0; outer = None }

-- a statement or a head begins behind a brace or a semicolon
abbrev pub behind_opened : (at : ℕ) → Spot → Spot
behind_opened at s = record { begin = at + 1; depth = min (s.depth + 1) (2 ^ 64 - 1); outer = s.outer }

-- where no brace is open any more, a class or an enum has ended
abbrev pub behind_closed : (at : ℕ) → Spot → Spot
behind_closed at s = record { begin = at + 1; depth = s.depth - 1; outer = if nat_le s.depth 1 then None else s.outer }

-- a class without a body ends so too
abbrev pub behind_semicolon : (at : ℕ) → Spot → Spot
behind_semicolon at s = record { begin = at + 1; depth = s.depth; outer = if s.depth == 0 then None else s.outer }

-- a name behind `class` or `enum` begins one
abbrev pub behind_name : (before : Word) → (at : ℕ) → Spot → Spot
behind_name before at s = if is_class before || is_enum before then record { begin = s.begin; depth = s.depth; outer = Some at } else s

-- where the next token stands, behind one that stands there and has another before it
abbrev pub spot_behind : (word before : Word) → (at : ℕ) → Spot → Spot
spot_behind (A_mark m.OpenBrace) before at s = behind_opened at s
spot_behind (A_mark m.CloseBrace) before at s = behind_closed at s
spot_behind (A_mark m.Semicolon) before at s = behind_semicolon at s
spot_behind (A_name bytes) before at s = behind_name before at s
spot_behind _ before at s = s

-- where so many first tokens stand, and the one behind them
unfoldable pub spots_up_to : Source → ℕ → List Spot
spots_up_to s zero = first_spot ∷ []
spots_up_to s (suc n) = spots_up_to s n ++ spot_behind (word_at s n) (word_at s (n - 1)) n (get_or (spots_up_to s n) n first_spot) ∷ []

-- where a token stands
abbrev pub spot_at : Source → ℕ → Spot
spot_at s at = get_or (spots_up_to s (length s.tokens)) at first_spot
