-- What a reader of a slice stands at.
use Rattle.std.specs.Prelude.{ℕ, List}

-- its bytes, and how many of them it has given
pub record Reading : Type 0 where
  pub text : List ℕ
  pub given : ℕ
