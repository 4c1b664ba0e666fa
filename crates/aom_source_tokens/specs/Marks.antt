-- Which bytes are marks.
use Rattle.std.specs.Prelude.{ℕ, Option, Some, None, if◌then◌else◌, ◌==◌, ◌&&◌}
use Rattle.aom_source_tokens.specs.declared.mark.Mark.{Mark}
use Rattle.aom_source_tokens.specs.declared.mark.Mark.TheVariants as m

-- the mark of two bytes
abbrev pub mark_of_two : ℕ → ℕ → Option Mark
mark_of_two first second =
    if first == 45 && second == 62 then Some m.Arrow  -- ->
    else if first == 63 && second == 46 then Some m.MaybeDot  -- ?.
    else if first == 46 && second == 46 then Some m.DotDot  -- ..
    else if first == 61 && second == 61 then Some m.Equal  -- ==
    else if first == 33 && second == 61 then Some m.NotEqual  -- !=
    else if first == 60 && second == 61 then Some m.AtMost  -- <=
    else if first == 62 && second == 61 then Some m.AtLeast  -- >=
    else if first == 38 && second == 38 then Some m.And  -- &&
    else if first == 124 && second == 124 then Some m.Or  -- ||
    else if first == 43 && second == 61 then Some m.PlusAssign  -- +=
    else if first == 45 && second == 61 then Some m.MinusAssign  -- -=
    else if first == 42 && second == 61 then Some m.TimesAssign  -- *=
    else if first == 38 && second == 61 then Some m.AndAssign  -- &=
    else if first == 124 && second == 61 then Some m.OrAssign  -- |=
    else if first == 94 && second == 61 then Some m.XorAssign  -- ^=
    else None

-- the mark of one byte
abbrev pub mark_of_one : ℕ → Option Mark
mark_of_one byte =
    if byte == 123 then Some m.OpenBrace  -- {
    else if byte == 125 then Some m.CloseBrace  -- }
    else if byte == 40 then Some m.OpenParenthesis  -- (
    else if byte == 41 then Some m.CloseParenthesis  -- )
    else if byte == 44 then Some m.Comma  -- ,
    else if byte == 59 then Some m.Semicolon  -- ;
    else if byte == 58 then Some m.Colon  -- :
    else if byte == 61 then Some m.Assign  -- =
    else if byte == 60 then Some m.Less  -- <
    else if byte == 62 then Some m.Greater  -- >
    else if byte == 43 then Some m.Plus  -- +
    else if byte == 45 then Some m.Minus  -- -
    else if byte == 42 then Some m.Times  -- *
    else if byte == 38 then Some m.BitAnd  -- &
    else if byte == 124 then Some m.BitOr  -- |
    else if byte == 94 then Some m.BitXor  -- ^
    else if byte == 33 then Some m.Not  -- !
    else if byte == 46 then Some m.Dot  -- .
    else if byte == 63 then Some m.Question  -- ?
    else None
