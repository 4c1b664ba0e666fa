-- The names of methods in a text, cut short.
use Rattle.std.specs.Prelude.{ℕ, ◌≡◌, ◌⊎◌, List, [], ◌∷◌, ◌++◌, decimal, take}
use Rattle.aom_source_tokens.specs.Tokens.{Source}
use Rattle.aom_source_listing.specs.Methods.{IsMethodName}

-- its first 32 bytes
abbrev pub short_label : (name : List ℕ) → List ℕ
short_label name = take 32 name

-- the first 27 bytes, and a number behind them, so that two are not one
abbrev pub numbered_label : (label : List ℕ) → (number : ℕ) → List ℕ
numbered_label label number = (take 27 label ++ 95 ∷ []) ++ decimal number

pub record IsNumbered (short label : List ℕ) : Type 0 where
  pub number : ℕ
  pub is : label ≡ numbered_label short number

-- what a method of a name is called in a text
abbrev pub IsLabelOf : (name label : List ℕ) → Type 0
IsLabelOf name label = (label ≡ short_label name) ⊎ IsNumbered (short_label name) label

-- what a method is called in a text whose line comes of a token
pub record IsLabel (s : Source) (token : ℕ) (label : List ℕ) : Type 0 where
  pub name : List ℕ
  pub method : IsMethodName s token name
  pub is : IsLabelOf name label
