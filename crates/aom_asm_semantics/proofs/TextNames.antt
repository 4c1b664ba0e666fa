-- The names that a listing declares are those of its classes and methods, each at its number.
use Rattle.std.proofs.lemmas.Bool.Decides.{nat_tests}
use Rattle.std.proofs.Common.{◌≡◌, ℕ, zero, suc, ◌+◌, ◌<◌, ◌≤◌, Bool, List, [], ◌∷◌, ◌++◌, length, get_or, Some, None, refl, sym, ap, ◌∙◌, append_assoc}
use Rattle.std.proofs.Common.{append-nil, arith}
use Rattle.aom_text.specs.declared.text.Statement.{Statement}
use Rattle.aom_image.specs.Image.{Image}
use Rattle.aom_image.specs.declared.class.ClassDecl.{ClassDecl}
use Rattle.aom_instructions.specs.declared.instr.Instr.{Instr}
use Rattle.aom_instructions.specs.declared.instr.Instr.TheVariants as instr
use Rattle.aom_image.specs.declared.method.Method.{Method}
use Rattle.aom_syntax.specs.Keywords.{keyword_text}
use Rattle.aom_syntax.specs.Names.{place_of}
use Rattle.aom_syntax.specs.declared.keyword.Keyword.{Keyword}
use Rattle.aom_syntax.specs.declared.keyword.Keyword.TheVariants as k
use Rattle.aom_disassembler.specs.Listing.{classes_statements, end_words, instr_statements, label_words, listing, method_statements, methods_statements}
use Rattle.aom_disassembler.specs.Operands.{class_name, method_name}
use Rattle.aom_disassembler.specs.Words.{words_statement}
use Rattle.aom_asm.specs.Denoted.{scope_of}
use Rattle.aom_asm.specs.TextNames.{declared_names, name_after, with_name}
use Rattle.aom_asm_semantics.specs.Naming.{HasNames}
use Rattle.aom_asm_semantics.specs.Texts.{all_words, names_from}
use Rattle.aom_asm_semantics.proofs.Names.{lettered, place_found}

-- ---- names by number

pub length_names : {X : Type 0} (name : ℕ → List ℕ) (n : ℕ) (xs : List X) → length (names_from name n xs) ≡ length xs
length_names name n [] = refl
length_names name n (x ∷ xs) = ap suc (length_names name (n + 1) xs)

name_there : {X : Type 0} (name : ℕ → List ℕ) (n : ℕ) (xs : List X) (j : ℕ) → j < length xs → get_or (names_from name n xs) j [] ≡ name (n + j)
name_there name n [] j within = absurd (omega arith)
name_there name n (x ∷ xs) zero within = ap name (omega arith)
name_there name n (x ∷ xs) (suc j) within = grind (arith, nat_tests, name_there name (n + 1) xs j)

pub name_at : {X : Type 0} (name : ℕ → List ℕ) (xs : List X) (j : ℕ) → j < length xs → get_or (names_from name 0 xs) j [] ≡ name j
name_at name xs j within = let same : 0 + j ≡ j = omega arith in name_there name 0 xs j within ∙ ap name same

numbered : {X : Type 0} (letter : ℕ) (xs : List X) (j : ℕ) → length xs ≤ 1024 → j < length xs →
    place_of (lettered letter j) (names_from (lettered letter) 0 xs) ≡ Some j
numbered letter xs j few within = grind (
  arith,
  nat_tests,
  lettered letter,
  length_names (lettered letter) 0 xs,
  place_found letter j,
  name_at (lettered letter) xs j within,
  name_at (lettered letter) xs,
)

-- ---- what statements declare, by their words

abbrev pub by_words : Keyword → List (List ℕ) → List (List (List ℕ)) → List (List ℕ)
by_words key names [] = names
by_words key names (ws ∷ wss) = by_words key (with_name names (name_after key ws)) wss

pub declared_by_words : (key : Keyword) (names : List (List ℕ)) (ss : List Statement) → declared_names key names ss ≡ by_words key names (all_words ss)
declared_by_words key names [] = refl
declared_by_words key names (s ∷ ss) = declared_by_words key (with_name names (name_after key s.words)) ss

pub by_words_more : (key : Keyword) (names : List (List ℕ)) (front behind : List (List (List ℕ))) →
    by_words key names (front ++ behind) ≡ by_words key (by_words key names front) behind
by_words_more key names [] behind = refl
by_words_more key names (ws ∷ wss) behind = by_words_more key (with_name names (name_after key ws)) wss behind

-- ---- instructions declare no names

-- an instruction's statement declares nothing by that keyword
record Silent (key : Keyword) : Type 0 where
  plain : (i : Instr) → name_after key (words_statement i) ≡ None
  labelled : (label : List ℕ) (ws : List (List ℕ)) → name_after key ((76 ∷ label) ∷ ws) ≡ None

silent_class : Silent k.Class
silent_class = record { plain = elim [ instr.And a b c ↦ refl | _ ↦ refl ]; labelled = λ label. elim [ [] ↦ refl | w ∷ ws ↦ refl ] }

silent_method : Silent k.Method
silent_method = record { plain = elim [ instr.And a b c ↦ refl | _ ↦ refl ]; labelled = λ label. elim [ [] ↦ refl | w ∷ ws ↦ refl ] }

module _ (key : Keyword) (silent : Silent key) where
  instruction_silent : (b : Bool) (place : ℕ) (i : Instr) → name_after key (label_words b place ++ words_statement i) ≡ None
  instruction_silent x place i = grind arith

  code_silent : (code : List Instr) (place : ℕ) (is : List Instr) (names : List (List ℕ)) → by_words key names (instr_statements code place is) ≡ names
  code_silent code place [] names = refl
  code_silent code place (i ∷ is) names = grind (arith, nat_tests, instruction_silent, code_silent code (place + 1) is names)

  body_silent : (code : List Instr) (names : List (List ℕ)) → by_words key names (instr_statements code 0 code ++ end_words ∷ []) ≡ names
  body_silent code names = by_words_more key names (instr_statements code 0 code) (end_words ∷ []) ∙ code_silent code 0 code names

-- ---- classes and methods

class_names_of_classes : (n : ℕ) (cs : List ClassDecl) (names : List (List ℕ)) →
    by_words k.Class names (classes_statements n cs) ≡ names ++ names_from class_name n cs
class_names_of_classes n [] names = sym (append-nil names)
class_names_of_classes n (c ∷ cs) names = class_names_of_classes (n + 1) cs (names ++ class_name n ∷ [])
    ∙ append_assoc names (class_name n ∷ []) (names_from class_name (n + 1) cs)

method_names_of_classes : (n : ℕ) (cs : List ClassDecl) (names : List (List ℕ)) → by_words k.Method names (classes_statements n cs) ≡ names
method_names_of_classes n [] names = refl
method_names_of_classes n (c ∷ cs) names = method_names_of_classes (n + 1) cs names

class_names_of_methods : (n : ℕ) (ms : List Method) (names : List (List ℕ)) → by_words k.Class names (methods_statements n ms) ≡ names
class_names_of_methods n [] names = refl
class_names_of_methods n (m ∷ ms) names = grind (arith, by_words_more, body_silent, class_names_of_methods (n + 1) ms names)

method_names_of_methods : (n : ℕ) (ms : List Method) (names : List (List ℕ)) →
    by_words k.Method names (methods_statements n ms) ≡ names ++ names_from method_name n ms
method_names_of_methods n [] names = sym (append-nil names)
method_names_of_methods n (m ∷ ms) names = by_words_more k.Method names (method_statements n m) (methods_statements (n + 1) ms)
    ∙ ap (λ l. by_words k.Method l (methods_statements (n + 1) ms)) (body_silent k.Method silent_method m.code (names ++ method_name n ∷ []))
    ∙ method_names_of_methods (n + 1) ms (names ++ method_name n ∷ []) ∙ append_assoc names (method_name n ∷ []) (names_from method_name (n + 1) ms)

-- ---- the whole

-- the image statement declares none
pub image_no_class : (ws : List (List ℕ)) → name_after k.Class (keyword_text k.Image ∷ ws) ≡ None
image_no_class [] = refl
image_no_class (w ∷ ws) = refl

pub image_no_method : (ws : List (List ℕ)) → name_after k.Method (keyword_text k.Image ∷ ws) ≡ None
image_no_method [] = refl
image_no_method (w ∷ ws) = refl

declared_classes : (i : Image) (ss : List Statement) → all_words ss ≡ listing i → declared_names k.Class [] ss ≡ names_from class_name 0 i.classes
declared_classes i ss words =
    grind (arith, nat_tests, declared_by_words, image_no_class, by_words_more, class_names_of_methods 0 i.methods, class_names_of_classes 0 i.classes)

declared_methods : (i : Image) (ss : List Statement) → all_words ss ≡ listing i → declared_names k.Method [] ss ≡ names_from method_name 0 i.methods
declared_methods i ss words =
    grind (arith, nat_tests, declared_by_words, image_no_method, by_words_more, method_names_of_classes 0 i.classes, method_names_of_methods 0 i.methods)

pub has_names : (i : Image) (ss : List Statement) (is_strict : Bool) (kinds : List ClassDecl) →
    length i.classes ≤ 256 → length i.methods ≤ 1024 → all_words ss ≡ listing i → HasNames (length i.classes) (length i.methods) (scope_of is_strict ss kinds)
has_names i ss is_strict kinds few_classes few_methods words =
    search (arith, nat_tests, declared_classes i ss words, numbered 99 i.classes, declared_methods i ss words, numbered 109 i.methods)
