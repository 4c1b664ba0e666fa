-- Which images are well formed: every field in its range, and at most 1 MiB of bytes.
use Rattle.std.specs.Prelude.{◌≡◌, ℕ, ◌+◌, ◌*◌, ◌<◌, ◌≤◌, ◌^◌, ◌||◌, ◌==◌, Bool, true, false, List, length, All, count_by, sum_by, Option, Some, None, IfSome}
use Rattle.aom_image.specs.Image.{Image}
use Rattle.aom_instructions.specs.Fits.{InstrFits, limits}
use Rattle.aom_instructions.specs.Versions.{family_bytes, has_families, includes}
use Rattle.aom_image.specs.declared.image.Header.{Header}
use Rattle.aom_instructions.specs.declared.version.Version.{Version}
use Rattle.aom_instructions.specs.declared.version.Version.TheVariants.{Two}
use Rattle.aom_image.specs.declared.class.ClassDecl.{ClassDecl}
use Rattle.aom_image.specs.declared.class.ClassKind.{ClassKind}
use Rattle.aom_image.specs.declared.class.ClassKind.TheVariants as kinds
use Rattle.aom_image.specs.declared.class.Provider.{Provider}
use Rattle.aom_image.specs.declared.class.Provider.TheVariants as providers
use Rattle.aom_image.specs.declared.method.Thing.{Thing}
use Rattle.aom_image.specs.declared.method.Thing.TheVariants.{Object, Message}
use Rattle.aom_image.specs.declared.method.Argument.{Argument}
use Rattle.aom_image.specs.declared.method.Argument.TheVariants as arguments
use Rattle.aom_image.specs.declared.method.Gives.{Gives}
use Rattle.aom_image.specs.declared.method.Gives.TheVariants as gives
use Rattle.aom_image.specs.declared.method.Method.{Method}

-- ---- classes

-- what may be owned is of a class that is there
abbrev pub ThingFits : ℕ → Thing → Type 0
ThingFits classes (Object c) = c < classes
ThingFits classes Message = Unit {0}

-- a native is one of those that the image names, and the first version has no tokens
abbrev pub ProviderFits : Version → ℕ → Provider → Type 0
ProviderFits version natives providers.Own = Unit {0}
ProviderFits version natives providers.Timer = Unit {0}
ProviderFits version natives (providers.Native n) = n < natives
ProviderFits version natives providers.Token = includes version Two ≡ true

-- a kind of class, in an image of that version beside so many classes and natives
abbrev pub KindFits : Version → ℕ → ℕ → ClassKind → Type 0
KindFits version classes natives kinds.Plain = Unit {0}
KindFits version classes natives (kinds.Active provider) = ProviderFits version natives provider
KindFits version classes natives (kinds.Server sessions session) = (1 ≤ sessions) × (sessions ≤ 64) × (session < classes)
KindFits version classes natives kinds.Session = Unit {0}

-- objects of such a class are dispatched, and each dispatch has a budget
abbrev pub is_dispatched : ClassKind → Bool
is_dispatched kinds.Plain = false
is_dispatched (kinds.Active provider) = true
is_dispatched (kinds.Server sessions session) = true
is_dispatched kinds.Session = false

-- a class of such a kind may declare so much: nothing where its objects are not dispatched
abbrev pub may_declare : ClassKind → ℕ → Bool
may_declare kind budget = is_dispatched kind || (budget == 0)

-- a class, in an image of that version beside so many classes and natives
pub record ClassFits (version : Version) (classes natives : ℕ) (c : ClassDecl) : Type 0 where
  pub kind : KindFits version classes natives c.kind
  pub words : c.words ≤ 8
  pub field_count : length c.fields ≤ 8
  pub fields : All (ThingFits classes) c.fields
  pub budget : c.budget < 2 ^ 32
  pub budgeted : may_declare c.kind c.budget ≡ true

-- the kind of servers
abbrev pub is_server_kind : ClassKind → Bool
is_server_kind kinds.Plain = false
is_server_kind (kinds.Active provider) = false
is_server_kind (kinds.Server sessions session) = true
is_server_kind kinds.Session = false

-- servers among the classes
abbrev pub is_server : ClassDecl → Bool
is_server c = is_server_kind c.kind

-- ---- methods

-- an argument, beside so many classes
abbrev pub ArgumentFits : ℕ → Argument → Type 0
ArgumentFits classes arguments.Word = Unit {0}
ArgumentFits classes (arguments.Own t) = ThingFits classes t

-- a result, beside so many classes
abbrev pub GivesFits : ℕ → Gives → Type 0
GivesFits classes gives.Nothing = Unit {0}
GivesFits classes gives.Word = Unit {0}
GivesFits classes (gives.Own t) = ThingFits classes t
GivesFits classes (gives.Maybe t) = ThingFits classes t
GivesFits classes (gives.Left c) = c < classes

-- a method, in an image of that version beside so many classes and methods
pub record MethodFits (version : Version) (classes methods : ℕ) (m : Method) : Type 0 where
  pub class : IfSome m.class (λ c. c < classes)
  pub flags : m.flags.0 < 4
  pub before : m.before.0 < 64
  pub after : m.after.0 < 64
  pub argument_count : length m.arguments ≤ 6
  pub arguments : All (ArgumentFits classes) m.arguments
  pub gives : GivesFits classes m.gives
  pub some_code : 1 ≤ length m.code
  pub code_length : length m.code ≤ 1024
  pub code : All (InstrFits (limits version classes methods (length m.code))) m.code

-- ---- families

-- servers and sessions have no parents
abbrev pub may_descend : ClassKind → Bool
may_descend kinds.Plain = true
may_descend (kinds.Active provider) = true
may_descend (kinds.Server sessions session) = false
may_descend kinds.Session = false

-- a parent is a class that is there, of an image and a kind that may have one
abbrev pub ParentFits : Version → ℕ → ClassKind → Option ℕ → Type 0
ParentFits version classes kind None = Unit {0}
ParentFits version classes kind (Some c) = (has_families version ≡ true) × (may_descend kind ≡ true) × (c < classes)

-- what is overridden is a method that is there
abbrev pub OverFits : Version → ℕ → Option ℕ → Type 0
OverFits version methods None = Unit {0}
OverFits version methods (Some m) = (has_families version ≡ true) × (m < methods)

-- the parents of the classes, and what the methods override
pub record FamiliesFit (version : Version) (classes : List ClassDecl) (methods : List Method) : Type 0 where
  pub parents : All (λ c. ParentFits version (length classes) c.kind c.parent) classes
  pub overridden_methods : All (λ m. OverFits version (length methods) m.over) methods

-- ---- the whole

-- a header, beside so many classes
pub record HeaderFits (classes : ℕ) (h : Header) : Type 0 where
  pub cells : h.cells ≤ 4096
  pub messages : h.messages ≤ 1024
  pub natives : h.natives ≤ 16
  pub root : IfSome h.root (λ c. c < classes)
  pub budget : h.budget < 2 ^ 32

-- the classes of an image of that version, beside so many natives
pub record ClassesFit (version : Version) (natives : ℕ) (classes : List ClassDecl) : Type 0 where
  pub count : length classes ≤ 256
  pub each : All (ClassFits version (length classes) natives) classes
  pub servers : count_by is_server classes ≤ 8

-- its methods, beside so many classes
pub record MethodsFit (version : Version) (classes : ℕ) (methods : List Method) : Type 0 where
  pub some : 1 ≤ length methods
  pub count : length methods ≤ 1024
  pub each : All (MethodFits version classes (length methods)) methods

-- how many bytes so many classes and these methods take: 24 for the header, 28 a class, 24 a method and 8 an instruction, and what tells of families
abbrev pub serialized_size : Version → ℕ → List Method → ℕ
serialized_size version classes methods = 24 + (28 + family_bytes version) * classes + sum_by (λ m. 24 + family_bytes version + 8 * length m.code) methods

-- an image with every field in its range
pub record WellFormed (i : Image) : Type 0 where
  pub header : HeaderFits (length i.classes) i.header
  pub classes : ClassesFit i.header.version i.header.natives i.classes
  pub methods : MethodsFit i.header.version (length i.classes) i.methods
  pub families : FamiliesFit i.header.version i.classes i.methods
  pub size : serialized_size i.header.version (length i.classes) i.methods ≤ 2 ^ 20
