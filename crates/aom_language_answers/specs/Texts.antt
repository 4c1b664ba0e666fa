-- Bytes as a text.
use Rattle.std.specs.Prelude.{ℕ, List, [], if◌then◌else◌}
use Rattle.std.specs.Str.{is_utf8}

-- none, where they are no UTF-8
abbrev pub text_or_none : List ℕ → List ℕ
text_or_none bytes = if is_utf8 bytes then bytes else []
