-- Classes, what they descend from, and what their objects own.
use Rattle.std.specs.Prelude.{ℕ, List, [], ◌++◌, Option, Some, None, codes}
use Rattle.std.specs.Fmt.{decimal}
use Rattle.aom_image.specs.Image.{Image}
use Rattle.aom_image.specs.declared.class.ClassDecl.{ClassDecl}
use Rattle.aom_image.specs.declared.class.ClassKind.{ClassKind}
use Rattle.aom_image.specs.declared.class.ClassKind.TheVariants.{Plain, Active, Server, Session}
use Rattle.aom_image.specs.declared.method.Thing.{Thing}
use Rattle.aom_image.specs.declared.method.Thing.TheVariants.{Object, Message}
use Rattle.aom_cost_report.specs.Each.{each, line_end, numbered}
use Rattle.aom_cost_report.specs.Names.{Names, label}
use Rattle.aom_cost_report.specs.Over.{class_is_over, color_text}

-- what a class is for, and the end of its label
abbrev pub kind_word : ClassKind → List ℕ
kind_word Plain = codes " plain\""
kind_word (Active provider) = codes " active\""
kind_word (Server sessions session) = codes " server\""
kind_word Session = codes " session\""

-- a box for a class, told by its name, with its kind
abbrev pub class_heading : Names → ℕ → ClassKind → List ℕ
class_heading names k kind = numbered (codes "c") k ++ codes " [shape=box label=\"" ++ label names.classes (codes "c") k ++ kind_word kind

-- its line, red where its dispatches are over what is declared of them
abbrev pub class_line : Names → Image → List ℕ → ℕ → ClassDecl → List ℕ
class_line names p prices k class = class_heading names k class.kind ++ color_text (class_is_over p prices k class) ++ line_end

-- what is owned
abbrev pub thing_text : Thing → List ℕ
thing_text (Object k) = codes " -> c" ++ decimal k
thing_text Message = codes " -> message"

abbrev pub field_line : ℕ → ℕ → Thing → List ℕ
field_line k field thing = codes "c" ++ decimal k ++ thing_text thing ++ codes " [label=\"f" ++ decimal field ++ codes "\"" ++ line_end

abbrev pub fields_text : ℕ → List Thing → List ℕ
fields_text k fields = each (field_line k) 0 fields

-- its parent, if it has one
abbrev pub parent_line : ℕ → ℕ → List ℕ
parent_line k parent = numbered (codes "c") k ++ numbered (codes " -> c") parent ++ (codes " [arrowhead=empty" ++ line_end)

abbrev pub parent_text : ℕ → Option ℕ → List ℕ
parent_text k None = []
parent_text k (Some parent) = parent_line k parent

-- a class, its parent, and what each of its owning fields may own
abbrev pub class_text : Names → Image → List ℕ → ℕ → ClassDecl → List ℕ
class_text names p prices k class = class_line names p prices k class ++ parent_text k class.parent ++ fields_text k class.fields

abbrev pub classes_text : Names → Image → List ℕ → List ClassDecl → List ℕ
classes_text names p prices classes = each (class_text names p prices) 0 classes
