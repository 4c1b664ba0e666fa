-- What is found in a text that denotes an image, from the program that it is written from.
use Rattle.std.proofs.Common.{◌≡◌, ◌∙◌, ℕ, suc, ◌+◌, List, [], ◌∷◌, Some, refl, sym, ap, slice_get, arith}
use Rattle.std.specs.Prelude.{option_map, true, false, map}
use Rattle.std.specs.List.{filter}
use Rattle.std.proofs.lemmas.Option.{slice_get-map}
use Rattle.aom_image.specs.Image.{Image}
use Rattle.aom_image.specs.declared.class.ClassDecl.{ClassDecl}
use Rattle.aom_image.specs.declared.method.Method.{Method}
use Rattle.aom_text.specs.Text.{statements}
use Rattle.aom_text.specs.declared.text.Statement.{Statement}
use Rattle.aom_syntax.specs.declared.keyword.Keyword.{Keyword}
use Rattle.aom_syntax.specs.declared.keyword.Keyword.TheVariants as k
use Rattle.aom_asm_semantics.specs.Texts.{all_words}
use Rattle.aom_asm_semantics.specs.Denotes.{Denotes, names_of}
use Rattle.aom_asm_semantics.specs.Meaning.{ClassMeans, InstructionMeans, MethodMeans, labels_of}
use Rattle.aom_asm_semantics.specs.Source.{InstructionText, MethodText, class_words, classes_of, declared_statements, header_words, instruction_words, methods_of}
use Rattle.aom_diagnostics.specs.Declarations.{begins, begins_with, class_names, class_statement, image_statement, instruction_statement}
use Rattle.aom_diagnostics.specs.Declarations.{method_names, method_statement, name_in, names_in, part}
use Rattle.aom_diagnostics.specs.Laws.{DeclaresClass, DeclaresMethod, words_of}
use Rattle.aom_diagnostics.specs.Lines.{class_lines, line_of, method_lines}
use Rattle.aom_diagnostics.proofs.Cuts.{filter_map, filter_no, part_map, part_no}
use Rattle.aom_diagnostics.proofs.Sources.{class_passes, code_found, method_passes, method_words, pair_at}

abbrev words : Statement → List (List ℕ)
words s = s.words

-- the words of what is found among statements are found among their words
of_words : (key : Keyword) (ss : List Statement) (number : ℕ) →
    words_of (slice_get (filter (begins key) ss) number) ≡ slice_get (filter (begins_with key) (all_words ss)) number
of_words key ss number = sym (slice_get-map words (filter (begins key) ss) number) ∙ ap (λ ws. slice_get ws number) (filter_map (begins_with key) words ss)

pub found_image : (text : List ℕ) (i : Image) (d : Denotes text i) → words_of (image_statement text) ≡ Some (header_words d.source.header)
found_image text i d = sym (slice_get-map words (statements text) 0) ∙ ap (λ ws. slice_get ws 0) d.written

-- the statement that a number finds behind the header is the one that the source has for it
there_by : {A : Type 0} (key : Keyword) (text : List ℕ) (i : Image) (d : Denotes text i) (serialize : A → List (List ℕ)) (said : List A) (number : ℕ) (one : A) →
    begins_with key (header_words d.source.header) ≡ false → filter (begins_with key) (declared_statements d.source.declarations) ≡ map serialize said →
    slice_get said number ≡ Some one → words_of (slice_get (filter (begins key) (statements text)) number) ≡ Some (serialize one)
there_by key text i d serialize said number one headed passes there =
    of_words key (statements text) number ∙ ap (λ ws. slice_get (filter (begins_with key) ws) number) d.written
    ∙ ap (λ ws. slice_get ws number) (filter_no (begins_with key) (header_words d.source.header) (declared_statements d.source.declarations) headed ∙ passes)
    ∙ slice_get-map serialize said number ∙ ap (option_map serialize) there

pub found_class : (text : List ℕ) (i : Image) (d : Denotes text i) (number : ℕ) (c : ClassDecl) →
    slice_get i.classes number ≡ Some c → DeclaresClass text (names_of d.source) i.header.version i.header.natives number c
found_class text i d number c there =
    let said = pair_at (ClassMeans (names_of d.source) i.header.version i.header.natives) (classes_of d.source.declarations) i.classes number c d.classes there in
    record {
      said = said.other;
      there = there_by k.Class text i d class_words (classes_of d.source.declarations) number said.other refl (class_passes d.source.declarations) said.there;
      means = said.holds;
    }

-- what is found for a place of a method
found_instruction : (text : List ℕ) (i : Image) (d : Denotes text i) (number place : ℕ) (said : MethodText) (t : InstructionText) →
    slice_get (methods_of d.source.declarations) number ≡ Some said → slice_get said.code place ≡ Some t →
    words_of (instruction_statement text number place) ≡ Some (instruction_words t)
found_instruction text i d number place said t method there =
    let next : number + 1 ≡ suc number = omega arith in
    sym (slice_get-map words (part (begins k.Method) (statements text) (number + 1)) place)
    ∙ ap (λ ws. slice_get ws place)
    (part_map (begins_with k.Method) words (statements text) (number + 1)
    ∙ ap (λ n. part (begins_with k.Method) (all_words (statements text)) n) next ∙ ap (λ ws. part (begins_with k.Method) ws (suc number)) d.written
    ∙ part_no (begins_with k.Method) (header_words d.source.header) (declared_statements d.source.declarations) number refl)
    ∙ code_found d.source.declarations number place said t method there

pub found_method : (text : List ℕ) (i : Image) (d : Denotes text i) (number : ℕ) (m : Method) →
    slice_get i.methods number ≡ Some m → DeclaresMethod text (names_of d.source) i.header.version i.classes number m
found_method text i d number m there =
    let said = pair_at (MethodMeans (names_of d.source) i.header.version true i.classes) (methods_of d.source.declarations) i.methods number m d.methods there in
    record {
      said = said.other;
      there = there_by k.Method text i d method_words (methods_of d.source.declarations) number said.other refl (method_passes d.source.declarations) said.there;
      means = said.holds;
      code = λ place instr here. (
          let held = pair_at (InstructionMeans (names_of d.source) i.header.version (labels_of said.other.code)) said.other.code m.code place
          instr said.holds.code here in
          record { said = held.other; there = found_instruction text i d number place said.other held.other said.there held.there; means = held.holds });
    }

-- ---- the names that are found

named_each : {A B : Type 0} (f : A → B) (name : B → List ℕ) (xs : List A) → map (λ x. name (f x)) xs ≡ map name (map f xs)
named_each f name [] = refl
named_each f name (x ∷ xs) = ap (λ ns. name (f x) ∷ ns) (named_each f name xs)

names_by : {A : Type 0} (key : Keyword) (text : List ℕ) (i : Image) (d : Denotes text i) (serialize : A → List (List ℕ)) (said : List A)
    → begins_with key (header_words d.source.header) ≡ false → filter (begins_with key) (declared_statements d.source.declarations) ≡ map serialize said
    → names_in key (statements text) ≡ map (λ x. name_in (serialize x)) said
names_by key text i d serialize said headed passes =
    named_each words name_in (filter (begins key) (statements text))
    ∙ ap (map name_in) (filter_map (begins_with key) words (statements text) ∙ ap (filter (begins_with key)) d.written
    ∙ filter_no (begins_with key) (header_words d.source.header) (declared_statements d.source.declarations) headed ∙ passes)
    ∙ sym (named_each serialize name_in said)

pub found_classes : (text : List ℕ) (i : Image) (d : Denotes text i) → class_names text ≡ (names_of d.source).classes
found_classes text i d = names_by k.Class text i d class_words (classes_of d.source.declarations) refl (class_passes d.source.declarations)

pub found_methods : (text : List ℕ) (i : Image) (d : Denotes text i) → method_names text ≡ (names_of d.source).methods
found_methods text i d = names_by k.Method text i d method_words (methods_of d.source.declarations) refl (method_passes d.source.declarations)

-- the lines found are those of the statements
pub class_lines_found : (text : List ℕ) (number : ℕ) → slice_get (class_lines text) number ≡ line_of (class_statement text number)
class_lines_found text number = slice_get-map (λ (s : Statement). s.line) (filter (begins k.Class) (statements text)) number

pub method_lines_found : (text : List ℕ) (number : ℕ) → slice_get (method_lines text) number ≡ line_of (method_statement text number)
method_lines_found text number = slice_get-map (λ (s : Statement). s.line) (filter (begins k.Method) (statements text)) number
