-- The declarations of a source, as an outline.
use Rattle.std.specs.Prelude.{ℕ, ◌==◌, ◌&&◌, Bool, not, if◌then◌else◌, List, [], ◌∷◌, codes, length, map, Option, Some}
use Rattle.aom_source_names.specs.Declarations.{declared_as}
use Rattle.aom_source_names.specs.Meanings.{declarations_in, is_number}
use Rattle.aom_source_names.specs.Spots.{spot_at}
use Rattle.aom_source_names.specs.declared.declared.Declared.{Declared}
use Rattle.aom_source_names.specs.declared.declared.Declared.TheVariants as d
use Rattle.aom_source_scopes.specs.Scopes.{word_at}
use Rattle.aom_source_tokens.specs.Tokens.{Source, Word, A_name}
use Rattle.serde_json.specs.Data.{Data, array, number, object, string, unsigned, member, no_members}
use Rattle.serde_json.specs.View.{items_of}
use Rattle.aom_language_answers.specs.Places.{name_range}
use Rattle.aom_language_answers.specs.Positions.{range_data}
use Rattle.aom_language_answers.specs.Texts.{text_or_none}

-- the number that the protocol has for what is declared
abbrev pub symbol_kind : Option Declared → ℕ
symbol_kind (Some d.Class) = 5
symbol_kind (Some d.Method) = 6
symbol_kind (Some d.Owner) = 8
symbol_kind (Some d.Word) = 8
symbol_kind (Some d.Enum) = 10
symbol_kind (Some d.Function) = 12
symbol_kind (Some d.Undo) = 12
symbol_kind (Some d.Const) = 14
symbol_kind (Some d.Member) = 22
symbol_kind _ = 13

-- the name that a token is
abbrev pub name_text : Word → List ℕ
name_text (A_name bytes) = text_or_none bytes
name_text _ = []

-- a declaration is in the one of another token
abbrev pub is_declared_in : Source → (outer at : ℕ) → Bool
is_declared_in s outer at = is_number (spot_at s at).outer outer && not (at == outer)

-- a symbol, with those that are in it
abbrev pub symbol_object : (name : List ℕ) → (kind : ℕ) → (range children : Data) → Data
symbol_object name kind range children =
    object (member (codes "children") children (member (codes "kind") (number (unsigned kind)) (member (codes "name") (string name)
    (member (codes "range") range (member (codes "selectionRange") range no_members)))))

abbrev pub symbol_data : Source → (text : List ℕ) → (at : ℕ) → (inner : List Data) → Data
symbol_data s text at inner =
    symbol_object (name_text (word_at s at)) (symbol_kind (declared_as s at)) (range_data (name_range s text at)) (array (items_of inner))

-- a declaration with none in it
abbrev pub inner_data : Source → (text : List ℕ) → (at : ℕ) → Data
inner_data s text at = symbol_data s text at []

-- of declarations behind one those that are in it, and the symbols of those behind them
pub record Behind : Type 0 where
  pub inner : List ℕ
  pub symbols : List Data

abbrev pub with_inner : (at : ℕ) → Behind → Behind
with_inner at behind = record { inner = at ∷ behind.inner; symbols = behind.symbols }

-- the symbols from a declaration on that is in no other
abbrev pub symbols_from : Source → (text : List ℕ) → (at : ℕ) → Behind → List Data
symbols_from s text at behind = symbol_data s text at (map (inner_data s text) behind.inner) ∷ behind.symbols

unfoldable pub behind_of : Source → (text : List ℕ) → (outer : ℕ) → List ℕ → Behind
behind_of s text outer [] = record { inner = []; symbols = [] }
behind_of s text outer (at ∷ others) =
    if is_declared_in s outer at then with_inner at (behind_of s text outer others)
    else record { inner = []; symbols = symbols_from s text at (behind_of s text at others) }

abbrev pub symbols_of : Source → (text : List ℕ) → List ℕ → List Data
symbols_of s text [] = []
symbols_of s text (at ∷ others) = symbols_from s text at (behind_of s text at others)

-- the outline of a source
abbrev pub outline_data : Source → (text : List ℕ) → Data
outline_data s text = array (items_of (symbols_of s text (declarations_in s (length s.tokens))))
