-- The law: where a text denotes an image, the statements that are found are there, and say what the image has.
use Rattle.std.specs.Prelude.{ℕ, true, ◌≡◌, List, Option, Some, option_map, slice_get}
use Rattle.aom_image.specs.Image.{Image}
use Rattle.aom_image.specs.declared.class.ClassDecl.{ClassDecl}
use Rattle.aom_instructions.specs.declared.version.Version.{Version}
use Rattle.aom_image.specs.declared.method.Method.{Method}
use Rattle.aom_instructions.specs.declared.instr.Instr.{Instr}
use Rattle.aom_text.specs.declared.text.Statement.{Statement}
use Rattle.aom_asm_semantics.specs.Denotes.{Denotes, names_of}
use Rattle.aom_asm_semantics.specs.Meaning.{ClassMeans, InstructionMeans, MethodMeans, NameTables, labels_of}
use Rattle.aom_asm_semantics.specs.Source.{ClassText, InstructionText, MethodText, class_words, header_words, heading_words, instruction_words}
use Rattle.aom_diagnostics.specs.Declarations.{class_names, class_statement, image_statement, instruction_statement, method_names, method_statement}
use Rattle.aom_diagnostics.specs.Lines.{class_lines, line_of, method_lines}

-- the words of a statement, where one was found
abbrev pub words_of : Option Statement → Option (List (List ℕ))
words_of found = option_map (λ s. s.words) found

-- the statement that is found for a class is there, and says what the class is
pub record DeclaresClass (text : List ℕ) (names : NameTables) (version : Version) (natives number : ℕ) (c : ClassDecl) : Type 0 where
  pub said : ClassText
  pub there : words_of (class_statement text number) ≡ Some (class_words said)
  pub means : ClassMeans names version natives said c

-- the statement that is found for a place of a method is there, and says the instruction
pub record HoldsInstruction (text : List ℕ) (names : NameTables) (version : Version) (labels : List (List ℕ)) (number place : ℕ) (i : Instr) : Type 0 where
  pub said : InstructionText
  pub there : words_of (instruction_statement text number place) ≡ Some (instruction_words said)
  pub means : InstructionMeans names version labels said i

-- the statement that is found for a method is there, and says what the method is, with those of its instructions
pub record DeclaresMethod (text : List ℕ) (names : NameTables) (version : Version) (classes : List ClassDecl) (number : ℕ) (m : Method) : Type 0 where
  pub said : MethodText
  pub there : words_of (method_statement text number) ≡ Some (heading_words said.heading)
  pub means : MethodMeans names version true classes said m
  pub code : (place : ℕ) (i : Instr) → slice_get m.code place ≡ Some i → HoldsInstruction text names version (labels_of said.code) number place i

pub record StatementsDeclare : Type 0 where
  -- the names that are found are those that the text's own names stand for, each at its number
  pub class_names : (text : List ℕ) (i : Image) (d : Denotes text i) → class_names text ≡ (names_of d.source).classes
  pub method_names : (text : List ℕ) (i : Image) (d : Denotes text i) → method_names text ≡ (names_of d.source).methods
  -- and the lines of them those of the statements that are found, in any text
  pub class_lines : (text : List ℕ) (number : ℕ) → slice_get (class_lines text) number ≡ line_of (class_statement text number)
  pub method_lines : (text : List ℕ) (number : ℕ) → slice_get (method_lines text) number ≡ line_of (method_statement text number)
  pub image : (text : List ℕ) (i : Image) (d : Denotes text i) → words_of (image_statement text) ≡ Some (header_words d.source.header)
  pub classes : (text : List ℕ) (i : Image) (d : Denotes text i) (number : ℕ) (c : ClassDecl) → slice_get i.classes number ≡ Some c → DeclaresClass text (names_of d.source) i.header.version i.header.natives number c
  pub methods : (text : List ℕ) (i : Image) (d : Denotes text i) (number : ℕ) (m : Method) → slice_get i.methods number ≡ Some m → DeclaresMethod text (names_of d.source) i.header.version i.classes number m
