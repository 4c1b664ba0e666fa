-- Where an image fails a link condition: in its listing, in the text that it is of, and in one line of that.
use Rattle.std.specs.Prelude.{ℕ, List, [], ◌++◌, Option, Some, None, codes, slice_get}
use Rattle.aom_link_conditions.specs.declared.place.LinkPlace.{LinkPlace}
use Rattle.aom_link_conditions.specs.declared.place.LinkPlace.TheVariants.{Class, Method as A_method, Instruction}
use Rattle.aom_image.specs.Image.{Image}
use Rattle.aom_image.specs.declared.class.ClassDecl.{ClassDecl}
use Rattle.aom_image.specs.declared.method.Method.{Method}
use Rattle.aom_disassembler.specs.Classes.{class_words}
use Rattle.aom_disassembler.specs.Text as listing
use Rattle.aom_diagnostics.specs.Declarations.{class_statement, method_statement}
use Rattle.aom_diagnostics.specs.Lines.{line_of, refusal_line}
use Rattle.aom_diagnostics.specs.Places.{heading_text, method_text}
use Rattle.aom_diagnostics.specs.Sources.{found_text, source_text}

-- ---- in a listing

-- the line that declares a class, as a listing has it
abbrev pub class_text : ℕ → ClassDecl → List ℕ
class_text number c = codes "In: " ++ listing.line_of (class_words number c)

-- the same where there is such a class
abbrev pub declared_class : ℕ → Option ClassDecl → List ℕ
declared_class number None = []
declared_class number (Some c) = class_text number c

-- and so of a method
abbrev pub declared_method : ℕ → Option Method → List ℕ
declared_method number None = []
declared_method number (Some m) = heading_text number m

-- what a listing says of a place: of an instruction its method too
abbrev pub link_text : Image → LinkPlace → List ℕ
link_text p (Class c) = declared_class c (slice_get p.classes c)
link_text p (A_method m) = declared_method m (slice_get p.methods m)
link_text p (Instruction m place) = method_text p m place

-- ---- in the text that the image is of

-- the statement that declares the class or the method, and the one that holds the instruction
abbrev pub link_source : List ℕ → LinkPlace → List ℕ
link_source text (Class c) = found_text (codes "In line ") (class_statement text c)
link_source text (A_method m) = found_text (codes "In line ") (method_statement text m)
link_source text (Instruction m place) = source_text text m place

-- the line of the last of these
abbrev pub link_line : List ℕ → LinkPlace → Option ℕ
link_line text (Class c) = line_of (class_statement text c)
link_line text (A_method m) = line_of (method_statement text m)
link_line text (Instruction m place) = refusal_line text m place
