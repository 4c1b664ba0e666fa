-- What is known of each class while the members of all are collected.
use Rattle.std.specs.Prelude.{ℕ, ◌≡◌, Bool, true, false, List, length, Option, Some}
use Rattle.std.specs.List.{filter}
use Rattle.aom_source_scopes.specs.Scopes.{word_at}
use Rattle.aom_source_tokens.specs.Tokens.{Source}
use Rattle.aom_source_names.specs.Words.{are_same_name}
use Rattle.aom_source_names.specs.Declarations.{declared_as}
use Rattle.aom_source_names.specs.Meanings.{declarations_in, parent_of}
use Rattle.aom_source_names.specs.declared.declared.Declared.{Declared}
use Rattle.aom_source_names.specs.declared.declared.Declared.TheVariants as d
use Rattle.aom_source_listing.specs.Members.{is_own, own_members}
use Rattle.aom_source_listing.specs.declared.own.Member.TheVariants as m
use Rattle.aom_source_listing.specs.declared.own.Own.{Own}
use Rattle.aom_source_listing.specs.declared.own.Sought.{Sought}
use Rattle.aom_source_listing.specs.declared.own.Sought.TheVariants as sought

abbrev pub is_class : Option Declared → Bool
is_class (Some d.Class) = true
is_class _ = false

abbrev pub is_any_member : Option Declared → Bool
is_any_member (Some d.Word) = true
is_any_member (Some d.Owner) = true
is_any_member _ = false

-- a token declares what is sought
abbrev pub fits : Source → Sought → (at : ℕ) → Bool
fits s sought.AnyClass at = is_class (declared_as s at)
fits s sought.AnyMember at = is_any_member (declared_as s at)
fits s (sought.Own kind class) at = is_own s kind class at

-- all tokens that declare it
abbrev pub all_that : Source → Sought → List ℕ
all_that s sought = filter (fits s sought) (declarations_in s (length s.tokens))

-- a token is the name at another
abbrev pub is_name_at : Source → (at : ℕ) → (token : ℕ) → Bool
is_name_at s at token = are_same_name (word_at s at) (word_at s token)

-- what is kept of a class is what the source says of it
pub record IsOwn (s : Source) (own : Own) : Type 0 where
  pub parent : own.parent ≡ parent_of s own.class
  pub words : own.words.items ≡ own_members s m.Word own.class
  pub fields : own.fields.items ≡ own_members s m.Field own.class
