-- Where names are, and where they are declared.
use Rattle.std.specs.Prelude.{ℕ, zero, suc, ◌==◌, ◌&&◌, Bool, nat_le, if◌then◌else◌, List, codes, length, map, Option, Some, None}
use Rattle.aom_source_names.specs.Meanings.{definitions_of}
use Rattle.aom_source_names.specs.Words.{is_name}
use Rattle.aom_source_scopes.specs.Scopes.{word_at}
use Rattle.aom_source_tokens.specs.Tokens.{Source, Word, A_name, token_at}
use Rattle.serde_json.specs.Data.{Data, array, null, object, string, member, no_members}
use Rattle.serde_json.specs.View.{items_of}
use Rattle.aom_language_answers.specs.Positions.{range_data, range_in}
use Rattle.aom_language_answers.specs.declared.position.Position.{Position}
use Rattle.aom_language_answers.specs.declared.position.Range.{Range}

abbrev pub name_size : Word → ℕ
name_size (A_name bytes) = length bytes
name_size _ = 0

-- from the first byte of a name to the one behind it
abbrev pub name_range : Source → (text : List ℕ) → (at : ℕ) → Range
name_range s text at = range_in text (token_at s at).place.at (name_size (word_at s at))

-- in a range of one line, or at its end
abbrev pub is_within : Range → Position → Bool
is_within range wanted = (range.start.line == wanted.line && nat_le range.start.character wanted.character) && nat_le wanted.character range.end.character

abbrev pub is_name_at : Source → (text : List ℕ) → Position → (at : ℕ) → Bool
is_name_at s text wanted at = is_name (word_at s at) && is_within (name_range s text at) wanted

abbrev pub found_or : Option ℕ → (is_here : Bool) → (at : ℕ) → Option ℕ
found_or None is_here at = if is_here then Some at else None
found_or (Some found) is_here at = Some found

-- the first of so many tokens that is a name there
unfoldable pub first_name_in : Source → (text : List ℕ) → Position → (count : ℕ) → Option ℕ
first_name_in s text wanted zero = None
first_name_in s text wanted (suc n) = found_or (first_name_in s text wanted n) (is_name_at s text wanted n) n

abbrev pub first_name_at : Source → (text : List ℕ) → Position → Option ℕ
first_name_at s text wanted = first_name_in s text wanted (length s.tokens)

-- a declaration's place
abbrev pub location_data : (uri : List ℕ) → Source → (text : List ℕ) → (declared : ℕ) → Data
location_data uri s text declared = object (member (codes "range") (range_data (name_range s text declared)) (member (codes "uri") (string uri) no_members))

abbrev pub locations_data : (uri : List ℕ) → Source → (text : List ℕ) → List ℕ → Data
locations_data uri s text found = array (items_of (map (location_data uri s text) found))

-- the places of all declarations of a name
abbrev pub definition_data : (uri : List ℕ) → Source → (text : List ℕ) → (at : Option ℕ) → Data
definition_data uri s text None = null
definition_data uri s text (Some at) = locations_data uri s text (definitions_of s at)
