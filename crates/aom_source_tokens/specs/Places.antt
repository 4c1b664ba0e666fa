-- Places in a text.
use Rattle.std.specs.Prelude.{ℕ, ◌+◌, ◌==◌, ◌≤◌, ◌≡◌, if◌then◌else◌, List, length, take}
use Rattle.std.specs.List.{fold}
use Rattle.aom_source_tokens.specs.declared.place.Place.{Place}

-- the place behind a byte
abbrev pub place_behind : Place → ℕ → Place
place_behind p b = if b == 10 then record { at = p.at + 1; line = p.line + 1; column = 1 } else record { at = p.at + 1; line = p.line; column = p.column + 1 }

-- the first place
abbrev pub first_place : Place
first_place = record { at = 0; line = 1; column = 1 }

-- the place behind bytes of which the first stands at a place
abbrev pub place_after : Place → List ℕ → Place
place_after p bytes = fold place_behind p bytes

-- a place in a text: that of one of its bytes, or of its end
pub record IsPlaceIn (text : List ℕ) (p : Place) : Type 0 where
  pub within : p.at ≤ length text
  pub is : p ≡ place_after first_place (take p.at text)
