-- What the parts of an assembly text say.
use Rattle.std.specs.Prelude.{ℕ, ◌≡◌, ◌<◌, ◌≤◌, ◌==◌, ◌||◌, Bool, true, false, List, [], ◌∷◌, map, length, replicate, Option, Some, None, IfSome, Ok, codes, slice_get}
use Rattle.std.specs.List.{slice_split}
use Rattle.std.specs.Str.{bytes_eq}
use Rattle.aom_text.specs.Names.{is_name}
use Rattle.aom_image.specs.WellFormed.{is_dispatched, may_descend}
use Rattle.aom_instructions.specs.Mnemonics.{is_in}
use Rattle.aom_instructions.specs.Versions.{has_families, includes}
use Rattle.aom_image.specs.declared.class.ClassDecl.{ClassDecl}
use Rattle.aom_image.specs.declared.class.ClassKind.{ClassKind}
use Rattle.aom_image.specs.declared.class.ClassKind.TheVariants as kinds
use Rattle.aom_image.specs.declared.class.Provider.{Provider}
use Rattle.aom_image.specs.declared.class.Provider.TheVariants as providers
use Rattle.aom_image.specs.declared.image.Header.{Header}
use Rattle.aom_instructions.specs.declared.version.Version.{Version}
use Rattle.aom_instructions.specs.declared.version.Version.TheVariants as versions
use Rattle.aom_instructions.specs.declared.instr.Instr.{Instr}
use Rattle.aom_image.specs.declared.method.Argument.{Argument}
use Rattle.aom_image.specs.declared.method.Argument.TheVariants as arg
use Rattle.aom_image.specs.declared.method.Gives.{Gives}
use Rattle.aom_image.specs.declared.method.Gives.TheVariants as result
use Rattle.aom_image.specs.declared.method.Method.{Method}
use Rattle.aom_image.specs.declared.method.States.{States}
use Rattle.aom_image.specs.declared.method.Thing.{Thing}
use Rattle.aom_image.specs.declared.method.Thing.TheVariants as owned
use Rattle.aom_syntax.specs.Methods.{all_states, flags_of, is_quiet_role, kind_of, role_of, states_of, default_after, default_before, default_gives, default_words}
use Rattle.aom_syntax.specs.Reading.{number_in}
use Rattle.aom_syntax.specs.Words.{words_operands}
use Rattle.aom_syntax.specs.declared.scope.Scope.{Scope}
use Rattle.aom_syntax.specs.declared.method.Heading.{Heading}
use Rattle.aom_asm.specs.TextNames.{label_or_none}
use Rattle.aom_asm_semantics.specs.Naming.{heading_of}
use Rattle.aom_asm_semantics.specs.Source.{Word, HeaderText, ProviderText, by_itself, by_timer, by_native, by_token, KindText, plain, session, active, server, ClassText, GivesText, omitted, nothing, word, own, maybe, left, HeadingText, InstructionText, MethodText}

-- ---- names

-- the classes and the methods that a text declares, by name
pub record NameTables : Type 0 where
  pub classes : List Word
  pub methods : List Word

-- the name that is declared as number n of its space
pub record IsNumbered (space : List Word) (w : Word) (n : ℕ) : Type 0 where
  pub is_name : is_name w ≡ true
  pub declared : slice_get space n ≡ Some w

-- no name is declared twice in a space
pub record DeclaredOnce (space : List Word) : Type 0 where
  pub same : (w : Word) (m n : ℕ) → IsNumbered space w m → IsNumbered space w n → m ≡ n

-- ---- what is said, and what is not

-- what a word says, or what stands for it where it is missing
abbrev pub SaidOr : {X : Type 0} → (Word → X → Type 0) → X → Option Word → X → Type 0
SaidOr Says default None x = x ≡ default
SaidOr Says default (Some w) x = Says w x

-- what a word says, and none where it is missing
abbrev pub SaidOrNone : {X : Type 0} → (Word → X → Type 0) → Option Word → Option X → Type 0
SaidOrNone Says None None = Unit {0}
SaidOrNone Says (Some w) (Some x) = Says w x
SaidOrNone Says said x = ⊥

-- ---- words

-- a decimal number from low to high
abbrev pub IsNumber : ℕ → ℕ → Word → ℕ → Type 0
IsNumber low high w n = number_in low high w ≡ Ok n

-- a set of request states, by its letters
abbrev pub AreStates : Word → States → Type 0
AreStates w s = states_of w ≡ Ok s

-- one after another, as many of both
abbrev pub Pairwise : {A B : Type 0} → (A → B → Type 0) → List A → List B → Type 0
Pairwise R [] [] = Unit {0}
Pairwise R (x ∷ xs) (y ∷ ys) = R x y × Pairwise R xs ys
Pairwise R xs ys = ⊥

-- the elements between commas, where a minus is the empty list
abbrev pub Elements : {X : Type 0} → (Word → X → Type 0) → Bool → Word → List X → Type 0
Elements Says true w xs = xs ≡ []
Elements Says false w xs = Pairwise Says (slice_split (λ b. b == 44) w) xs

-- a list in one word, of at most so many
pub record IsList {X : Type 0} (most : ℕ) (Says : Word → X → Type 0) (w : Word) (xs : List X) : Type 0 where
  pub elements : Elements Says (bytes_eq w (codes "-")) w xs
  pub few : length xs ≤ most

-- what may be owned: a message, or an object of a class
abbrev pub IsThing : NameTables → Word → Thing → Type 0
IsThing names w owned.Message = w ≡ codes "msg"
IsThing names w (owned.Object c) = IsNumbered names.classes w c

-- what a method takes
abbrev pub IsArgument : NameTables → Word → Argument → Type 0
IsArgument names w arg.Word = w ≡ codes "word"
IsArgument names w (arg.Own t) = IsThing names w t

-- ---- the image

-- a version is said where it is the second
abbrev pub VersionMeans : Option Word → Version → Type 0
VersionMeans None versions.One = Unit {0}
VersionMeans (Some w) versions.Two = IsNumber 2 2 w 2
VersionMeans said version = ⊥

-- limits that are missing are 0
pub record HeaderMeans (names : NameTables) (t : HeaderText) (h : Header) : Type 0 where
  pub version : VersionMeans t.version h.version
  pub cells : SaidOr (IsNumber 0 4096) 0 t.cells h.cells
  pub messages : SaidOr (IsNumber 0 1024) 0 t.messages h.messages
  pub natives : SaidOr (IsNumber 0 16) 0 t.natives h.natives
  pub budget : IsNumber 0 4294967295 t.budget h.budget
  pub root : SaidOrNone (IsNumbered names.classes) t.root h.root

-- ---- classes

-- a native is one of those that the image names, and tokens are of the second version
abbrev pub ProviderMeans : Version → ℕ → ProviderText → Provider → Type 0
ProviderMeans version natives by_itself providers.Own = Unit {0}
ProviderMeans version natives by_timer providers.Timer = Unit {0}
ProviderMeans version natives (by_native number) (providers.Native n) = IsNumber 0 15 number n × (n < natives)
ProviderMeans version natives by_token providers.Token = includes version versions.Two ≡ true
ProviderMeans version natives said provider = ⊥

-- the budget of active classes and servers
abbrev pub IsBudget : Word → ℕ → Type 0
IsBudget w n = IsNumber 0 4294967295 w n

-- what a class is for
abbrev pub KindMeans : NameTables → Version → ℕ → KindText → ClassKind → Type 0
KindMeans names version natives plain kinds.Plain = Unit {0}
KindMeans names version natives session kinds.Session = Unit {0}
KindMeans names version natives (active said) (kinds.Active provider) = ProviderMeans version natives said provider
KindMeans names version natives (server class most) (kinds.Server sessions of_class) = IsNumbered names.classes class of_class × IsNumber 1 64 most sessions
KindMeans names version natives said kind = ⊥

-- a parent is named in a text of the second version, of a class whose kind may have one
abbrev pub ParentMeans : NameTables → Version → ClassKind → Option Word → Option ℕ → Type 0
ParentMeans names version kind None None = Unit {0}
ParentMeans names version kind (Some w) (Some c) = (has_families version ≡ true) × (may_descend kind ≡ true) × IsNumbered names.classes w c
ParentMeans names version kind said parent = ⊥

-- a budget stands where there are dispatches, and nowhere else
abbrev pub BudgetMeans : Bool → Option Word → ℕ → Type 0
BudgetMeans true (Some w) n = IsBudget w n
BudgetMeans false None n = n ≡ 0
BudgetMeans dispatched said n = ⊥

-- a class of an image of that version with so many natives
pub record ClassMeans (names : NameTables) (version : Version) (natives : ℕ) (t : ClassText) (c : ClassDecl) : Type 0 where
  pub name : is_name t.name ≡ true
  pub kind : KindMeans names version natives t.kind c.kind
  pub parent : ParentMeans names version c.kind t.parent c.parent
  pub words : SaidOr (IsNumber 0 8) 0 t.words c.words
  pub own : SaidOr (IsList 8 (IsThing names)) [] t.own c.fields
  pub budget : BudgetMeans (is_dispatched c.kind) t.budget c.budget

-- ---- methods

-- what a method gives, or what stands for it where that is missing
abbrev pub GivesMeans : NameTables → Option Gives → GivesText → Gives → Type 0
GivesMeans names default omitted g = default ≡ Some g
GivesMeans names default nothing result.Nothing = Unit {0}
GivesMeans names default word result.Word = Unit {0}
GivesMeans names default (own w) (result.Own t) = IsThing names w t
GivesMeans names default (maybe w) (result.Maybe t) = IsThing names w t
GivesMeans names default (left w) (result.Left c) = IsNumbered names.classes w c
GivesMeans names default said g = ⊥

-- what is overridden is named in a text of the second version
abbrev pub OverMeans : NameTables → Version → Option Word → Option ℕ → Type 0
OverMeans names version None None = Unit {0}
OverMeans names version (Some w) (Some m) = (has_families version ≡ true) × IsNumbered names.methods w m
OverMeans names version said over = ⊥

-- a set of states, by its number
abbrev pub states : ℕ → States
states set = record { 0 = set }

-- a method but its code, beside the classes, where they are known: each part that is missing is as the role and the class say
pub record HeadingMeans (names : NameTables) (version : Version) (known : Bool) (classes : List ClassDecl) (t : HeadingText) (h : Heading) : Type 0 where
  pub name : is_name t.name ≡ true
  pub role : role_of t.role ≡ Ok h.role
  pub class : SaidOrNone (IsNumbered names.classes) t.class h.class
  pub over : OverMeans names version t.over h.over
  pub flags : h.flags ≡ flags_of t.leaves (t.quiet || is_quiet_role h.role)
  pub before : SaidOr AreStates (states (default_before h.role (all_states (kind_of classes h.class)))) t.before h.before
  pub after : SaidOr AreStates (states (default_after h.role (all_states (kind_of classes h.class)))) t.after h.after
  pub arguments : SaidOr (IsList 6 (IsArgument names)) (replicate (default_words h.role) arg.Word) t.arguments h.arguments
  pub gives : GivesMeans names (default_gives known h.role (kind_of classes h.class)) t.gives h.gives

-- the labels of a method, by place: an empty word where there is none
abbrev pub labels_of : List InstructionText → List Word
labels_of code = map (λ t. label_or_none t.label) code

-- where operands find what a name stands for
abbrev pub lookup : NameTables → Scope
lookup names = record { is_strict = true; classes = names.classes; methods = names.methods; kinds = [] }

-- an instruction of a method with these labels: the version has it, and its operands are what its mnemonic asks for
pub record InstructionMeans (names : NameTables) (version : Version) (labels : List Word) (t : InstructionText) (i : Instr) : Type 0 where
  pub label : IfSome t.label (λ l. is_name l ≡ true)
  pub there : is_in version t.mnemonic ≡ true
  pub operands : words_operands (lookup names) labels t.mnemonic t.operands ≡ Ok (i, [])

-- a method beside the classes: no label stands twice, and each of its instructions is of the image
pub record MethodMeans (names : NameTables) (version : Version) (known : Bool) (classes : List ClassDecl) (t : MethodText) (m : Method) : Type 0 where
  pub heading : HeadingMeans names version known classes t.heading (heading_of m)
  pub labels : DeclaredOnce (labels_of t.code)
  pub code : Pairwise (InstructionMeans names version (labels_of t.code)) t.code m.code
  pub some : 1 ≤ length m.code
  pub few : length m.code ≤ 1024
