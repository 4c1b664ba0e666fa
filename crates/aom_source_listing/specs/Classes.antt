-- Which class a line declares, by the token that it comes of.
use Rattle.std.specs.Prelude.{ℕ, ◌≡◌, List, [], Some}
use Rattle.aom_source_scopes.specs.Scopes.{word_at}
use Rattle.aom_source_tokens.specs.Tokens.{A_name, Source, Word}
use Rattle.aom_source_names.specs.Declarations.{declared_as}
use Rattle.aom_source_names.specs.Spots.{spot_at}
use Rattle.aom_source_names.specs.declared.declared.Declared.TheVariants as d

abbrev pub name_in : Word → List ℕ
name_in (A_name bytes) = bytes
name_in _ = []

-- the name that a token is
abbrev pub name_at : Source → ℕ → List ℕ
name_at s at = name_in (word_at s at)

-- a token names a class, whose declaration begins with another
pub record BeginsClass (s : Source) (token class : ℕ) : Type 0 where
  pub declared : declared_as s class ≡ Some d.Class
  pub begins : (spot_at s class).begin ≡ token

-- the name of the class whose declaration begins with a token
pub record IsClassName (s : Source) (token : ℕ) (name : List ℕ) : Type 0 where
  pub class : ℕ
  pub begins : BeginsClass s token class
  pub is : name_at s class ≡ name
