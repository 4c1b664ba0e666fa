-- The documents that are open: each has a name of its own, and a text.
use Rattle.std.specs.Prelude.{ℕ, ◌≡◌, ◌≢◌, ◌+◌, Bool, true, false, if◌then◌else◌, List, [], ◌∷◌, length, Option, Some, None, ⊤}
use Rattle.std.specs.Option.{option_to_list}
use Rattle.std.specs.Str.{bytes_eq}

-- a text, and the name that the client has for it
pub record NamedText : Type 0 where
  pub uri : List ℕ
  pub text : List ℕ

abbrev pub is_named : (uri : List ℕ) → NamedText → Bool
is_named uri document = bytes_eq document.uri uri

-- the text of the document of a name, if that is open
abbrev pub text_of : (uri : List ℕ) → List NamedText → Option (List ℕ)
text_of uri [] = None
text_of uri (document ∷ others) = if is_named uri document then Some document.text else text_of uri others

-- no two have one name
abbrev pub HaveOwnNames : List NamedText → Type 0
HaveOwnNames [] = ⊤
HaveOwnNames (document ∷ others) = (text_of document.uri others ≡ None) × HaveOwnNames others

-- under one name there is this text now, or none; under the others all is as it was
pub record Updates (old new : List NamedText) (uri : List ℕ) (text : Option (List ℕ)) : Type 0 where
  pub here : text_of uri new ≡ text
  pub others : (other : List ℕ) → other ≢ uri → text_of other new ≡ text_of other old
  pub count : length new + length (option_to_list (text_of uri old)) ≡ length old + length (option_to_list text)

-- a document has another text now, or all is as it was
abbrev pub UpdatesIf : (is_open : Bool) → (old new : List NamedText) → (uri text : List ℕ) → Type 0
UpdatesIf true old new uri text = Updates old new uri (Some text)
UpdatesIf false old new uri text = new ≡ old
