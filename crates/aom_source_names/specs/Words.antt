-- What single tokens are.
use Rattle.std.specs.Prelude.{Bool, true, false}
use Rattle.std.specs.Str.{bytes_eq}
use Rattle.aom_source_tokens.specs.Tokens.{Word, A_keyword, A_mark, A_name}
use Rattle.aom_source_tokens.specs.declared.keyword.Keyword.TheVariants as k
use Rattle.aom_source_tokens.specs.declared.mark.Mark.TheVariants as m

abbrev pub is_name : Word → Bool
is_name (A_name bytes) = true
is_name _ = false

abbrev pub is_class : Word → Bool
is_class (A_keyword k.Class) = true
is_class _ = false

abbrev pub is_enum : Word → Bool
is_enum (A_keyword k.Enum) = true
is_enum _ = false

abbrev pub is_colon : Word → Bool
is_colon (A_mark m.Colon) = true
is_colon _ = false

abbrev pub is_open_parenthesis : Word → Bool
is_open_parenthesis (A_mark m.OpenParenthesis) = true
is_open_parenthesis _ = false

-- the parameters behind it have no types
abbrev pub begins_role : Word → Bool
begins_role (A_keyword k.Service) = true
begins_role (A_keyword k.Error) = true
begins_role (A_keyword k.Undo) = true
begins_role _ = false

abbrev pub are_same_name : Word → Word → Bool
are_same_name (A_name one) (A_name other) = bytes_eq one other
are_same_name _ _ = false
