-- A buffer of lines, as contracts see it.
use Rattle.std.specs.Prelude.{ℕ, ◌+◌, List}
use Rattle.aom_transcript.specs.declared.line.Line.{Line}

pub record LineBuffer : Type 0 where
  pub lines : List Line
  -- the numbers of the requests that are refused
  pub refused : List ℕ
  -- how many lines there may be
  pub room : ℕ

-- how many lines one step may write where there are so many messages
abbrev pub step_lines : ℕ → ℕ
step_lines messages = messages + 68
