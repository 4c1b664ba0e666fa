-- Names and labels as a listing has them.
use Rattle.std.specs.Prelude.{◌≡◌, ◌<◌, ◌≤◌, ℕ, Bool, true, false, List, [], Some, IfSome}
use Rattle.aom_instructions.specs.declared.instr.Instr.{Instr}
use Rattle.aom_image.specs.declared.method.Method.{Method}
use Rattle.aom_syntax.specs.Names.{place_of}
use Rattle.aom_syntax.specs.declared.method.Heading.{Heading}
use Rattle.aom_syntax.specs.declared.scope.Scope.{Scope}
use Rattle.aom_disassembler.specs.Jumps.{is_target, jump_of}
use Rattle.aom_disassembler.specs.Listing.{placed}
use Rattle.aom_disassembler.specs.Operands.{class_name, label_name, method_name}

-- each of so many classes and methods has the name of its number, and no other has it before
pub record HasNames (classes methods : ℕ) (scope : Scope) : Type 0 where
  pub few_classes : classes ≤ 256
  pub few_methods : methods ≤ 1024
  pub class : (c : ℕ) → c < classes → place_of (class_name c) scope.classes ≡ Some c
  pub method : (m : ℕ) → m < methods → place_of (method_name m) scope.methods ≡ Some m

-- a label, or an empty word where nothing jumps to
abbrev pub label_or_none : Bool → ℕ → List ℕ
label_or_none true place = label_name place
label_or_none false place = []

-- the labels of a method's code, from a place on
abbrev pub labels_from : List Instr → ℕ → List Instr → List (List ℕ)
labels_from code place is = placed (λ p i. label_or_none (is_target code p) p) place is

abbrev pub code_labels : List Instr → List (List ℕ)
code_labels code = labels_from code 0 code

-- where an instruction jumps to there is a label
abbrev pub HasLabel : List (List ℕ) → Instr → Type 0
HasLabel labels i = IfSome (jump_of i) (λ d. (d < 1024) × (place_of (label_name d) labels ≡ Some d))

-- what the heading of a method says
abbrev pub heading_of : Method → Heading
heading_of m = record { class = m.class; over = m.over; role = m.role; flags = m.flags; before = m.before; after = m.after; arguments = m.arguments; gives = m.gives }
