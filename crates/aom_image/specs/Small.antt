-- Words that write down the parts of a small image of the first version, for laws and examples that look at one.
use Rattle.std.specs.Prelude.{ℕ, List, Option, None}
use Rattle.aom_instructions.specs.declared.instr.Instr.{Instr}
use Rattle.aom_image.specs.declared.class.ClassDecl.{ClassDecl}
use Rattle.aom_image.specs.declared.class.ClassKind.{ClassKind}
use Rattle.aom_image.specs.declared.image.Header.{Header}
use Rattle.aom_instructions.specs.declared.version.Version.TheVariants.{One}
use Rattle.aom_image.specs.declared.method.Argument.{Argument}
use Rattle.aom_image.specs.declared.method.Gives.{Gives}
use Rattle.aom_image.specs.declared.method.Method.{Method}
use Rattle.aom_image.specs.declared.method.Role.{Role}
use Rattle.aom_image.specs.declared.method.Thing.{Thing}

abbrev pub a_header : (cells messages natives : ℕ) (root : Option ℕ) (budget : ℕ) → Header
a_header cells messages natives root budget = record { version = One; cells = cells; messages = messages; natives = natives; root = root; budget = budget }

abbrev pub a_class : (kind : ClassKind) (budget words : ℕ) (fields : List Thing) → ClassDecl
a_class kind budget words fields = record { kind = kind; parent = None; words = words; fields = fields; budget = budget }

-- with its flags and its sets of states by their numbers
abbrev pub a_method : (class : Option ℕ) (role : Role) (flags before after : ℕ) (arguments : List Argument) (gives : Gives) (code : List Instr) → Method
a_method class role flags before after arguments gives code = record {
  class = class;
  over = None;
  role = role;
  flags = record { 0 = flags };
  before = record { 0 = before };
  after = record { 0 = after };
  arguments = arguments;
  gives = gives;
  code = code;
}
