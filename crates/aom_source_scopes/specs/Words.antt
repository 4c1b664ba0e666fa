-- What single tokens are.
use Rattle.std.specs.Prelude.{Bool, true, false}
use Rattle.aom_source_tokens.specs.Tokens.{Word, A_keyword, A_mark}
use Rattle.aom_source_tokens.specs.declared.keyword.Keyword.TheVariants as k
use Rattle.aom_source_tokens.specs.declared.mark.Mark.TheVariants as m

abbrev pub is_let : Word → Bool
is_let (A_keyword k.Let) = true
is_let _ = false

abbrev pub is_if : Word → Bool
is_if (A_keyword k.If) = true
is_if _ = false

-- a brace or a semicolon: a statement or a head ends before it or with it
abbrev pub is_end : Word → Bool
is_end (A_mark m.OpenBrace) = true
is_end (A_mark m.CloseBrace) = true
is_end (A_mark m.Semicolon) = true
is_end _ = false

-- a name behind it may be declared: by `let`, `if let`, `for`, `catch`, or as a parameter
abbrev pub may_declare : Word → Bool
may_declare (A_keyword k.Let) = true
may_declare (A_keyword k.For) = true
may_declare (A_keyword k.Catch) = true
may_declare (A_mark m.OpenParenthesis) = true
may_declare (A_mark m.Comma) = true
may_declare _ = false
