-- What parameters say.
use Rattle.std.specs.Prelude.{List, [], ◌∷◌, ℕ, ◌-◌, codes, get_or, if◌then◌else◌, is_some, length, Option, Some, None, option_and_then}
use Rattle.std.specs.List.{list_all}
use Rattle.serde_json.specs.Data.{Data, Items, no_items, item}
use Rattle.serde_json.specs.Find.{as_array, as_number, as_str, as_u64, get, pointer}
use Rattle.aom_language_answers.specs.declared.position.Position.{Position}

-- the number at a place
abbrev pub number_said : (path : List ℕ) → Data → Option ℕ
number_said path params = option_and_then as_u64 (option_and_then as_number (pointer path params))

-- a position, if both its numbers are said
abbrev pub position_said : Option ℕ → Option ℕ → Option Position
position_said (Some line) (Some character) = Some (record { line = line; character = character })
position_said _ _ = None

-- ---- changes

-- the text of a change: none, where it is a part or says no text
abbrev pub whole_text : Data → Option (List ℕ)
whole_text change = if is_some (get (codes "range") change) then None else option_and_then as_str (get (codes "text") change)

abbrev pub whole_texts : Items → List (Option (List ℕ))
whole_texts no_items = []
whole_texts (item change others) = whole_text change ∷ whole_texts others

-- the last text, if each is one
abbrev pub last_text : List (Option (List ℕ)) → Option (List ℕ)
last_text texts = if list_all is_some texts then get_or texts (length texts - 1) None else None

-- the text of a document behind its changes
abbrev pub changed_text : Data → Option (List ℕ)
changed_text params = option_and_then (λ changes. last_text (whole_texts changes)) (option_and_then as_array (get (codes "contentChanges") params))
