-- What a name means where it is used: its declarations.
use Rattle.std.specs.Prelude.{ℕ, zero, suc, ◌+◌, ◌-◌, ◌==◌, ◌&&◌, ◌||◌, Bool, true, false, nat_le, if◌then◌else◌, List, [], ◌∷◌, ◌++◌, length, slice_get, Option, Some, None}
use Rattle.std.specs.List.{list_any}
use Rattle.aom_source_scopes.specs.Scopes.{holds_at, word_at}
use Rattle.aom_source_tokens.specs.Tokens.{Source, Word, A_keyword, A_mark, A_name}
use Rattle.aom_source_tokens.specs.declared.keyword.Keyword.TheVariants as k
use Rattle.aom_source_tokens.specs.declared.mark.Mark.TheVariants as m
use Rattle.aom_source_names.specs.Declarations.{declared_as}
use Rattle.aom_source_names.specs.Spots.{spot_at}
use Rattle.aom_source_names.specs.Words.{are_same_name, is_colon, is_name, is_open_parenthesis}
use Rattle.aom_source_names.specs.declared.declared.Declared.{Declared}
use Rattle.aom_source_names.specs.declared.declared.Declared.TheVariants as d
use Rattle.aom_source_names.specs.declared.wanted.Wanted.{Wanted}
use Rattle.aom_source_names.specs.declared.wanted.Wanted.TheVariants as w

-- ---- one declaration

abbrev pub is_among : ℕ → List ℕ → Bool
is_among number numbers = list_any (λ other. number == other) numbers

-- it is in the declaration of one of these classes
abbrev pub is_member_of : List ℕ → Option ℕ → Bool
is_member_of classes None = false
is_member_of classes (Some outer) = is_among outer classes

-- a local that holds at a token and is declared no later
abbrev pub holds_for : Source → (declared at : ℕ) → Bool
holds_for s declared at = nat_le declared at && holds_at s declared at

-- a member of the enum that is named two tokens before the use
abbrev pub is_of_named : Source → (at : ℕ) → Option ℕ → Bool
is_of_named s at None = false
is_of_named s at (Some outer) = are_same_name (word_at s (at - 2)) (word_at s outer)

-- the name at `at`, where a class has these above it, may stand for what is declared so
abbrev pub suits : Source → (at : ℕ) → (classes : List ℕ) → (declared : ℕ) → Wanted → Option Declared → Bool
suits s at classes declared w.Class (Some d.Class) = true
suits s at classes declared w.Type (Some d.Class) = true
suits s at classes declared w.Type (Some d.Enum) = true
suits s at classes declared w.Enum (Some d.Enum) = true
suits s at classes declared w.Const (Some d.Const) = true
suits s at classes declared w.Function (Some d.Function) = true
suits s at classes declared w.Undo (Some d.Undo) = true
suits s at classes declared w.Method (Some d.Method) = true
suits s at classes declared w.OwnMethod (Some d.Method) = is_member_of classes (spot_at s declared).outer
suits s at classes declared w.Field (Some d.Word) = is_member_of classes (spot_at s declared).outer
suits s at classes declared w.Field (Some d.Owner) = is_member_of classes (spot_at s declared).outer
suits s at classes declared w.Member (Some d.Member) = is_of_named s at (spot_at s declared).outer
suits s at classes declared w.Local (Some d.Local) = holds_for s declared at
suits s at classes declared w.Local (Some d.Parameter) = holds_for s declared at
suits s at classes declared _ _ = false

-- a token declares the name at `at` as that
abbrev pub fits : Source → (at : ℕ) → (classes : List ℕ) → Wanted → (declared : ℕ) → Bool
fits s at classes wanted declared = are_same_name (word_at s at) (word_at s declared) && suits s at classes declared wanted (declared_as s declared)

-- ---- all declarations

-- those among so many first tokens
unfoldable pub matching_in : Source → (at : ℕ) → (classes : List ℕ) → Wanted → (count : ℕ) → List ℕ
matching_in s at classes wanted zero = []
matching_in s at classes wanted (suc n) = matching_in s at classes wanted n ++ (if fits s at classes wanted n then n ∷ [] else [])

abbrev pub matching : Source → (at : ℕ) → (classes : List ℕ) → Wanted → List ℕ
matching s at classes wanted = matching_in s at classes wanted (length s.tokens)

-- the class that the head of another names as its parent
abbrev pub parent_of : Source → (class : ℕ) → Option ℕ
parent_of s class = if is_colon (word_at s (class + 1)) then slice_get (matching s (class + 2) [] w.Class) 0 else None

-- a class and those above it, at most so many
unfoldable pub line_of : Source → (most : ℕ) → Option ℕ → List ℕ
line_of s zero class = []
line_of s (suc most) None = []
line_of s (suc most) (Some class) = class ∷ line_of s most (parent_of s class)

-- the class in which a token stands, and those above it
abbrev pub classes_at : Source → (at : ℕ) → List ℕ
classes_at s at = line_of s 256 (spot_at s at).outer

-- ---- what is looked up

-- a name that stands for a value, or is called
abbrev pub wanted_alone : (next : Word) → List Wanted
wanted_alone next = if is_open_parenthesis next then w.OwnMethod ∷ w.Function ∷ [] else w.Local ∷ w.Field ∷ w.Const ∷ w.Enum ∷ []

-- a name behind a dot
abbrev pub wanted_of : (next : Word) → List Wanted
wanted_of next = if is_open_parenthesis next then w.Method ∷ [] else w.Member ∷ []

-- what a name is looked up as, one after the other, by the words beside it
abbrev pub wanted_as : (before next : Word) → List Wanted
wanted_as (A_mark m.Dot) next = wanted_of next
wanted_as (A_mark m.MaybeDot) next = wanted_of next
wanted_as (A_mark m.Colon) next = w.Type ∷ []
wanted_as (A_mark m.Arrow) next = w.Type ∷ []
wanted_as (A_keyword k.New) next = w.Type ∷ []
wanted_as (A_keyword k.Of) next = w.Type ∷ []
wanted_as (A_keyword k.Defer) next = w.Undo ∷ []
wanted_as (A_name bytes) next = w.Type ∷ []
wanted_as before next = wanted_alone next

-- the first that are any
abbrev pub first_of : List ℕ → List ℕ → List ℕ
first_of [] later = later
first_of (x ∷ xs) later = x ∷ xs

abbrev pub first_matching : Source → (at : ℕ) → (classes : List ℕ) → List Wanted → List ℕ
first_matching s at classes [] = []
first_matching s at classes (wanted ∷ more) = first_of (matching s at classes wanted) (first_matching s at classes more)

-- the declarations of a name that is used
abbrev pub used_as : Source → (at : ℕ) → List ℕ
used_as s at = first_matching s at (classes_at s at) (wanted_as (word_at s (at - 1)) (word_at s (at + 1)))

abbrev pub declared_or : Option Declared → (at : ℕ) → List ℕ → List ℕ
declared_or None at used = used
declared_or (Some declared) at used = at ∷ []

-- the declarations of the name at a token: itself, where it declares one
abbrev pub definitions_of : Source → (at : ℕ) → List ℕ
definitions_of s at = if is_name (word_at s at) then declared_or (declared_as s at) at (used_as s at) else []

-- ---- all places

abbrev pub is_number : Option ℕ → ℕ → Bool
is_number None other = false
is_number (Some number) other = number == other

-- methods of one name are one, whatever their classes are
abbrev pub first_meant : Source → (at : ℕ) → Option Declared → Option ℕ → Option ℕ
first_meant s at (Some d.Method) first = slice_get (matching s at [] w.Method) 0
first_meant s at _ first = first

abbrev pub declared_at : Source → Option ℕ → Option Declared
declared_at s None = None
declared_at s (Some at) = declared_as s at

-- the declaration for which all stand that mean the same
abbrev pub meant_at : Source → (at : ℕ) → Option ℕ
meant_at s at = first_meant s at (declared_at s (slice_get (definitions_of s at) 0)) (slice_get (definitions_of s at) 0)

-- a token is the name at another, and means that declaration
abbrev pub means_it : Source → (at meant other : ℕ) → Bool
means_it s at meant other = are_same_name (word_at s at) (word_at s other) && is_number (meant_at s other) meant

-- those among so many first tokens
unfoldable pub places_in : Source → (at meant count : ℕ) → List ℕ
places_in s at meant zero = []
places_in s at meant (suc n) = places_in s at meant n ++ (if means_it s at meant n then n ∷ [] else [])

abbrev pub places_if : Source → (at : ℕ) → Option ℕ → List ℕ
places_if s at None = []
places_if s at (Some meant) = places_in s at meant (length s.tokens)

-- the tokens that mean what the name at one means
abbrev pub places_of : Source → (at : ℕ) → List ℕ
places_of s at = places_if s at (meant_at s at)

-- one of so many first tokens is the name of these bytes
unfoldable pub has_name : (name : List ℕ) → (count : ℕ) → Source → Bool
has_name name zero s = false
has_name name (suc n) s = has_name name n s || are_same_name (word_at s n) (A_name name)

-- ---- an outline

-- a declaration of something else than a parameter or a local
abbrev pub is_outer : Option Declared → Bool
is_outer None = false
is_outer (Some d.Parameter) = false
is_outer (Some d.Local) = false
is_outer (Some declared) = true

-- those among so many first tokens
unfoldable pub declarations_in : Source → (count : ℕ) → List ℕ
declarations_in s zero = []
declarations_in s (suc n) = declarations_in s n ++ (if is_outer (declared_as s n) then n ∷ [] else [])
