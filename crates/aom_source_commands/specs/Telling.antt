-- What is told of a source begins with a place of it.
use Rattle.std.specs.Prelude.{List, ◌++◌, ℕ, ◌≡◌, ◌⊎◌, codes, decimal}
use Rattle.aom_source_tokens.specs.Places.{IsPlaceIn}
use Rattle.aom_source_tokens.specs.declared.place.Place.{Place}

-- `NAME:LINE:COLUMN: `
abbrev pub place_text : (name : List ℕ) → Place → List ℕ
place_text name p = ((name ++ codes ":" ++ decimal p.line) ++ codes ":" ++ decimal p.column) ++ codes ": "

-- a text begins with a place of a source that has a name
pub record BeginsWithPlace (name source told : List ℕ) : Type 0 where
  pub place : Place
  pub within : IsPlaceIn source place
  pub rest : List ℕ
  pub is : told ≡ place_text name place ++ rest

-- a text begins so, or says first that memory is wanted
abbrev pub TellsPlace : (name source told : List ℕ) → Type 0
TellsPlace name source told = BeginsWithPlace name source told ⊎ ((rest : List ℕ) × (told ≡ codes "memory\n" ++ rest))
