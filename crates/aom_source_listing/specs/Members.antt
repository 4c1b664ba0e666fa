-- The words and the fields of a class, by the tokens that declare them.
use Rattle.std.specs.Prelude.{ℕ, zero, suc, ◌≡◌, ◌&&◌, Bool, true, false, List, [], ◌∷◌, ◌++◌, codes, decimal, drop, get_or, length, Option, Some}
use Rattle.std.specs.List.{filter}
use Rattle.aom_source_tokens.specs.Tokens.{Source}
use Rattle.aom_source_names.specs.Declarations.{declared_as}
use Rattle.aom_source_names.specs.Meanings.{declarations_in, is_number, line_of}
use Rattle.aom_source_names.specs.Spots.{spot_at}
use Rattle.aom_source_names.specs.declared.declared.Declared.{Declared}
use Rattle.aom_source_names.specs.declared.declared.Declared.TheVariants as d
use Rattle.aom_source_listing.specs.Classes.{BeginsClass, name_at}
use Rattle.aom_source_listing.specs.Lines.{comment_of}
use Rattle.aom_source_listing.specs.declared.own.Member.{Member}
use Rattle.aom_source_listing.specs.declared.own.Member.TheVariants as m

-- a token declares a word, or a field
abbrev pub is_member : Member → Option Declared → Bool
is_member m.Word (Some d.Word) = true
is_member m.Field (Some d.Owner) = true
is_member _ _ = false

-- in the declaration of a class
abbrev pub is_own : Source → Member → (class : ℕ) → (at : ℕ) → Bool
is_own s kind class at = is_member kind (declared_as s at) && is_number (spot_at s at).outer class

-- those that a class declares, in their order in the source
abbrev pub own_members : Source → Member → (class : ℕ) → List ℕ
own_members s kind class = filter (is_own s kind class) (declarations_in s (length s.tokens))

-- those of classes of which each descends from the next: those of the next come first
unfoldable pub members_along : Source → Member → (classes : List ℕ) → List ℕ
members_along s kind [] = []
members_along s kind (class ∷ above) = members_along s kind above ++ own_members s kind class

-- those of a class and of all above it
abbrev pub members : Source → Member → (class : ℕ) → List ℕ
members s kind class = members_along s kind (line_of s 256 (Some class))

abbrev pub letter : Member → List ℕ
letter m.Word = codes ", w"
letter m.Field = codes ", f"

-- a member by its number and its name
abbrev pub entry : Source → Member → (number at : ℕ) → List ℕ
entry s kind number at = ((letter kind ++ decimal number) ++ codes " ") ++ name_at s at

-- so many first of some members
unfoldable pub entries_in : Source → Member → (members : List ℕ) → (count : ℕ) → List ℕ
entries_in s kind members zero = []
entries_in s kind members (suc n) = entries_in s kind members n ++ entry s kind n (get_or members n 0)

abbrev pub entries : Source → Member → (members : List ℕ) → List ℕ
entries s kind members = entries_in s kind members (length members)

-- the comment of a class's line, behind its mark: ` w0 count, w1 limit, f0 kept`
abbrev pub members_text : Source → (class : ℕ) → List ℕ
members_text s class = drop 1 (entries s m.Word (members s m.Word class) ++ entries s m.Field (members s m.Field class))

-- the comment of a line tells the members of the class whose declaration begins with a token
pub record TellsMembers (s : Source) (token : ℕ) (line : List ℕ) : Type 0 where
  pub class : ℕ
  pub begins : BeginsClass s token class
  pub tells : comment_of line ≡ members_text s class
