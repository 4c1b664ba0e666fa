-- The parts of an assembly text, and the words with which each is written.
use Rattle.std.specs.Prelude.{ℕ, Bool, true, false, List, [], ◌∷◌, ◌++◌, map, Option, Some, None, codes}
use Rattle.aom_syntax.specs.Keywords.{keyword_text}
use Rattle.aom_instructions.specs.Mnemonics.{mnemonic_text}
use Rattle.aom_syntax.specs.declared.keyword.Keyword.{Keyword}
use Rattle.aom_syntax.specs.declared.keyword.Keyword.TheVariants as k
use Rattle.aom_instructions.specs.declared.mnemonic.Mnemonic.{Mnemonic}

-- a word, by its bytes
abbrev pub Word : Type 0
Word = List ℕ

-- a statement, by its words
abbrev pub Words : Type 0
Words = List Word

-- ---- parts that may be missing

-- a keyword and the word behind it
abbrev pub part : Keyword → Option Word → Words
part key None = []
part key (Some w) = keyword_text key ∷ w ∷ []

-- a keyword that stands alone
abbrev pub mark : Keyword → Bool → Words
mark key false = []
mark key true = keyword_text key ∷ []

-- ---- the image

-- the version, limits, main's budget and the root's class
pub record HeaderText : Type 0 where
  pub version : Option Word
  pub cells : Option Word
  pub messages : Option Word
  pub natives : Option Word
  pub budget : Word
  pub root : Option Word

abbrev pub header_words : HeaderText → Words
header_words t = keyword_text k.Image ∷ (part k.Version t.version ++ (part k.Cells t.cells ++ (part k.Messages t.messages ++ (part k.Natives t.natives ++ (keyword_text k.Budget ∷ t.budget ∷ part k.Root t.root)))))

-- ---- classes

-- what completes an active object's requests
pub data ProviderText : Type 0 where
  by_itself : ProviderText
  by_timer : ProviderText
  by_native : Word → ProviderText
  by_token : ProviderText

abbrev pub provider_words : ProviderText → Words
provider_words by_itself = keyword_text k.This ∷ []
provider_words by_timer = keyword_text k.Timer ∷ []
provider_words (by_native number) = keyword_text k.Native ∷ number ∷ []
provider_words by_token = keyword_text k.Token ∷ []

-- what a class is for: a server with the class of its sessions and the most of them
pub data KindText : Type 0 where
  plain : KindText
  session : KindText
  active : ProviderText → KindText
  server : Word → Word → KindText

abbrev pub kind_words : KindText → Words
kind_words plain = keyword_text k.Plain ∷ []
kind_words session = keyword_text k.Session ∷ []
kind_words (active provider) = keyword_text k.Active ∷ provider_words provider
kind_words (server class most) = keyword_text k.Server ∷ class ∷ keyword_text k.Max ∷ most ∷ []

pub record ClassText : Type 0 where
  pub name : Word
  pub kind : KindText
  pub parent : Option Word
  pub words : Option Word
  pub own : Option Word
  pub budget : Option Word

abbrev pub class_words : ClassText → Words
class_words t = keyword_text k.Class ∷ t.name ∷ (kind_words t.kind ++ (part k.From t.parent ++ (part k.Words t.words ++ (part k.Own t.own ++ part k.Budget t.budget))))

-- ---- methods

-- what a method gives
pub data GivesText : Type 0 where
  omitted : GivesText
  nothing : GivesText
  word : GivesText
  own : Word → GivesText
  maybe : Word → GivesText
  left : Word → GivesText

abbrev pub gives_words : GivesText → Words
gives_words omitted = []
gives_words nothing = keyword_text k.Gives ∷ keyword_text k.Nothing ∷ []
gives_words word = keyword_text k.Gives ∷ keyword_text k.Word ∷ []
gives_words (own thing) = keyword_text k.Gives ∷ keyword_text k.Own ∷ thing ∷ []
gives_words (maybe thing) = keyword_text k.Gives ∷ keyword_text k.Maybe ∷ thing ∷ []
gives_words (left class) = keyword_text k.Gives ∷ keyword_text k.Left ∷ class ∷ []

-- the statement that begins a method
pub record HeadingText : Type 0 where
  pub name : Word
  pub role : Keyword
  pub class : Option Word
  pub over : Option Word
  pub leaves : Bool
  pub quiet : Bool
  pub before : Option Word
  pub after : Option Word
  pub arguments : Option Word
  pub gives : GivesText

-- what stands behind the role
abbrev pub promise_words : HeadingText → Words
promise_words t = part k.Of t.class ++ (part k.Over t.over ++ (mark k.Leaves t.leaves ++ (mark k.Quiet t.quiet ++ (part k.In t.before ++ (part k.Out t.after ++ (part k.Args t.arguments ++ gives_words t.gives))))))

abbrev pub heading_words : HeadingText → Words
heading_words t = keyword_text k.Method ∷ t.name ∷ keyword_text t.role ∷ promise_words t

-- an instruction, with its label where it has one
pub record InstructionText : Type 0 where
  pub label : Option Word
  pub mnemonic : Mnemonic
  pub operands : Words

abbrev pub label_words : Option Word → Words
label_words None = []
label_words (Some label) = (label ++ codes ":") ∷ []

abbrev pub instruction_words : InstructionText → Words
instruction_words t = label_words t.label ++ (mnemonic_text t.mnemonic ∷ t.operands)

-- a method: its first statement, its instructions, and `end`
pub record MethodText : Type 0 where
  pub heading : HeadingText
  pub code : List InstructionText

abbrev pub end_words : Words
end_words = keyword_text k.End ∷ []

-- ---- programs

pub data Declaration : Type 0 where
  class : ClassText → Declaration
  method : MethodText → Declaration

-- the statements of a declaration
abbrev pub declaration_statements : Declaration → List Words
declaration_statements (class t) = class_words t ∷ []
declaration_statements (method t) = heading_words t.heading ∷ (map instruction_words t.code ++ end_words ∷ [])

-- a program: the image statement, then classes and methods in any order
pub record Source : Type 0 where
  pub header : HeaderText
  pub declarations : List Declaration

-- the statements of declarations
abbrev pub declared_statements : List Declaration → List Words
declared_statements [] = []
declared_statements (d ∷ ds) = declaration_statements d ++ declared_statements ds

-- the statements of a program
abbrev pub source_statements : Source → List Words
source_statements s = header_words s.header ∷ declared_statements s.declarations

-- the classes in their order, and the methods
abbrev pub classes_of : List Declaration → List ClassText
classes_of [] = []
classes_of (class t ∷ ds) = t ∷ classes_of ds
classes_of (method t ∷ ds) = classes_of ds

abbrev pub methods_of : List Declaration → List MethodText
methods_of [] = []
methods_of (class t ∷ ds) = methods_of ds
methods_of (method t ∷ ds) = t ∷ methods_of ds
