-- A name changed in all its places.
use Rattle.std.specs.Prelude.{ℕ, ◌==◌, if◌then◌else◌, List, codes, length, map, Option, Some, None}
use Rattle.aom_source_names.specs.Meanings.{places_of}
use Rattle.aom_source_tokens.specs.Tokens.{Source}
use Rattle.serde_json.specs.Data.{Data, array, null, object, string, member, no_members}
use Rattle.serde_json.specs.View.{items_of}
use Rattle.aom_language_answers.specs.Places.{name_range}
use Rattle.aom_language_answers.specs.Positions.{range_data}

abbrev pub edit_data : (name : List ℕ) → Source → (text : List ℕ) → (at : ℕ) → Data
edit_data name s text at = object (member (codes "newText") (string name) (member (codes "range") (range_data (name_range s text at)) no_members))

-- the edits of all places
abbrev pub edits_data : (name : List ℕ) → Source → (text : List ℕ) → List ℕ → Data
edits_data name s text places = array (items_of (map (edit_data name s text) places))

-- those of what the name at a token means, in the document of that name
abbrev pub rename_data : (uri name : List ℕ) → Source → (text : List ℕ) → (at : ℕ) → Data
rename_data uri name s text at = object (member (codes "changes") (object (member uri (edits_data name s text (places_of s at)) no_members)) no_members)

-- the range of a name that can be renamed: one that is declared somewhere
abbrev pub prepare_data : Source → (text : List ℕ) → (at : Option ℕ) → Data
prepare_data s text None = null
prepare_data s text (Some at) = if length (places_of s at) == 0 then null else range_data (name_range s text at)
