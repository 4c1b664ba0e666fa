-- The statement that declares a class.
use Rattle.std.specs.Prelude.{ℕ, Bool, true, false, List, [], ◌∷◌, ◌++◌, map, decimal}
use Rattle.aom_image.specs.WellFormed.{is_dispatched}
use Rattle.aom_image.specs.declared.class.ClassDecl.{ClassDecl}
use Rattle.aom_image.specs.declared.class.ClassKind.{ClassKind}
use Rattle.aom_image.specs.declared.class.ClassKind.TheVariants as kinds
use Rattle.aom_image.specs.declared.class.Provider.{Provider}
use Rattle.aom_image.specs.declared.class.Provider.TheVariants as providers
use Rattle.aom_image.specs.declared.method.Thing.{Thing}
use Rattle.aom_image.specs.declared.method.Thing.TheVariants as owned
use Rattle.aom_syntax.specs.Keywords.{keyword_text}
use Rattle.aom_syntax.specs.declared.keyword.Keyword.TheVariants as k
use Rattle.aom_disassembler.specs.Operands.{class_after, class_name}
use Rattle.aom_disassembler.specs.Text.{list_word}

-- what may be owned
abbrev pub thing_word : Thing → List ℕ
thing_word (owned.Object c) = class_name c
thing_word owned.Message = keyword_text k.Message

-- what completes an active object's requests
abbrev pub provider_words : Provider → List (List ℕ)
provider_words providers.Own = keyword_text k.This ∷ []
provider_words providers.Timer = keyword_text k.Timer ∷ []
provider_words (providers.Native n) = keyword_text k.Native ∷ decimal n ∷ []
provider_words providers.Token = keyword_text k.Token ∷ []

-- what a class is for
abbrev pub kind_words : ClassKind → List (List ℕ)
kind_words kinds.Plain = keyword_text k.Plain ∷ []
kind_words (kinds.Active provider) = keyword_text k.Active ∷ provider_words provider
kind_words (kinds.Server sessions session) = keyword_text k.Server ∷ class_name session ∷ keyword_text k.Max ∷ decimal sessions ∷ []
kind_words kinds.Session = keyword_text k.Session ∷ []

-- a budget, where there are dispatches
abbrev pub budget_words : Bool → ℕ → List (List ℕ)
budget_words true budget = keyword_text k.Budget ∷ decimal budget ∷ []
budget_words false budget = []

-- how many words there are, and what each owning field may own
abbrev pub field_words : ClassDecl → List (List ℕ)
field_words c = keyword_text k.Words ∷ decimal c.words ∷ keyword_text k.Own ∷ list_word (map thing_word c.fields) ∷ []

-- a class, at its place among the classes
abbrev pub class_words : ℕ → ClassDecl → List (List ℕ)
class_words place c = keyword_text k.Class ∷ class_name place ∷ (kind_words c.kind ++ (class_after k.From c.parent ++ (field_words c ++ budget_words (is_dispatched c.kind) c.budget)))
