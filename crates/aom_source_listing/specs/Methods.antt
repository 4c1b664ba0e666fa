-- What a method is called in a text, before that is cut short.
use Rattle.std.specs.Prelude.{ℕ, ◌+◌, ◌≡◌, ◌⊎◌, if◌then◌else◌, nat_le, List, ◌∷◌, ◌++◌, codes, option_map, Option, Some, None}
use Rattle.aom_source_scopes.specs.Scopes.{word_at}
use Rattle.aom_source_tokens.specs.Tokens.{A_keyword, A_name, Source, Word}
use Rattle.aom_source_tokens.specs.declared.keyword.Keyword.{Keyword}
use Rattle.aom_source_tokens.specs.declared.keyword.Keyword.TheVariants as k
use Rattle.aom_source_names.specs.Spots.{spot_at}
use Rattle.aom_source_listing.specs.Classes.{BeginsClass, name_at}
use Rattle.aom_source_listing.specs.declared.methods.Added.{Added}
use Rattle.aom_source_listing.specs.declared.methods.Added.TheVariants as a

-- ---- a method that the source has

-- the word of a role
abbrev pub role_text : Keyword → Option (List ℕ)
role_text k.Construct = Some (codes "construct")
role_text k.Destruct = Some (codes "destruct")
role_text k.Run = Some (codes "run")
role_text k.Cancel = Some (codes "cancel")
role_text k.Error = Some (codes "error")
role_text k.Accept = Some (codes "accept")
role_text k.Service = Some (codes "service")
role_text k.Main = Some (codes "main")
role_text _ = None

abbrev pub name_if : Word → Option (List ℕ)
name_if (A_name bytes) = Some bytes
name_if _ = None

-- the name behind `fn` or `undo`, or the word of its role: by the first word of what declares it, and the next
abbrev pub called : (word next : Word) → Option (List ℕ)
called (A_keyword k.Fn) next = name_if next
called (A_keyword k.Undo) next = name_if next
called (A_keyword keyword) next = role_text keyword
called _ next = None

-- the name of its class comes before its own
abbrev pub of_class : Source → Option ℕ → List ℕ → List ℕ
of_class s None name = name
of_class s (Some class) name = name_at s class ++ 95 ∷ name

-- the method whose declaration begins with a token: of the class in whose declaration that stands, in the block of no other method
abbrev pub own_name : Source → (token : ℕ) → Option (List ℕ)
own_name s token =
    if nat_le (spot_at s token).depth 1 then option_map (of_class s (spot_at s token).outer) (called (word_at s token) (word_at s (token + 1))) else None

-- ---- a method that is added to a class

-- what it is called, by the name of the class
abbrev pub added_name : Added → (class : List ℕ) → List ℕ
added_name a.Destruct class = class ++ codes "_destruct"
added_name a.Cancel class = class ++ codes "_cancel"
added_name a.Accept class = class ++ codes "_accept"
added_name a.Widens class = codes "as_" ++ class
added_name a.Makes class = codes "make_" ++ class

-- it is added to the class whose declaration begins with a token
pub record IsAddedName (s : Source) (token : ℕ) (name : List ℕ) : Type 0 where
  pub class : ℕ
  pub begins : BeginsClass s token class
  pub added : Added
  pub is : name ≡ added_name added (name_at s class)

-- ---- both

-- the name of a method whose line comes of a token
abbrev pub IsMethodName : Source → (token : ℕ) → (name : List ℕ) → Type 0
IsMethodName s token name = (own_name s token ≡ Some name) ⊎ IsAddedName s token name
