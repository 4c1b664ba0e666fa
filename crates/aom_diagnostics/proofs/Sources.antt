-- What a program's statements begin with, and so which of them are found.
use Rattle.std.proofs.Common.{◌≡◌, ◌∙◌, ℕ, zero, suc, false, List, [], ◌∷◌, ◌++◌, map, Option, Some, None, refl, sym, ap, slice_get, subst}
use Rattle.std.specs.List.{filter}
use Rattle.std.specs.Str.{bytes_eq}
use Rattle.std.proofs.lemmas.Bool.{false_from_ne_true}
use Rattle.std.proofs.lemmas.Option.{none-some, same_Some}
use Rattle.std.proofs.lemmas.Slice.Eq.{bytes_eq-Decides}
use Rattle.aom_instructions.specs.Mnemonics.{mnemonic_text}
use Rattle.aom_instructions.specs.declared.mnemonic.Mnemonic.{Mnemonic}
use Rattle.aom_instructions.specs.declared.mnemonic.Mnemonic.TheVariants as m
use Rattle.aom_syntax.specs.Keywords.{keyword_text}
use Rattle.aom_syntax.specs.Methods.{label_of}
use Rattle.aom_syntax.specs.declared.keyword.Keyword.{Keyword}
use Rattle.aom_syntax.specs.declared.keyword.Keyword.TheVariants as k
use Rattle.aom_diagnostics.proofs.AsmSemanticsLemmas.{label_cut}
use Rattle.aom_asm_semantics.specs.Meaning.{Pairwise}
use Rattle.aom_asm_semantics.specs.Source as source
use Rattle.aom_asm_semantics.specs.Source.{Declaration, InstructionText, MethodText, class_words, classes_of, declared_statements}
use Rattle.aom_asm_semantics.specs.Source.{end_words, heading_words, instruction_words, label_words, methods_of}
use Rattle.aom_diagnostics.specs.Declarations.{begins_with, part}
use Rattle.aom_diagnostics.proofs.Cuts.{filter_no, filter_yes, part_first, part_no, part_yes}

-- ---- what an instruction and an end do not begin with

-- a keyword that begins neither an instruction nor the end of a method
pub record Foreign (key : Keyword) : Type 0 where
  pub mnemonic : (n : Mnemonic) → bytes_eq (mnemonic_text n) (keyword_text key) ≡ false
  pub label : label_of (keyword_text key) ≡ None
  pub ending : begins_with key end_words ≡ false

class_mnemonic : (n : Mnemonic) → bytes_eq (mnemonic_text n) (keyword_text k.Class) ≡ false
class_mnemonic m.Const = refl
class_mnemonic _ = refl

pub class_foreign : Foreign k.Class
class_foreign = record { mnemonic = class_mnemonic; label = refl; ending = refl }

method_mnemonic : (n : Mnemonic) → bytes_eq (mnemonic_text n) (keyword_text k.Method) ≡ false
method_mnemonic m.Const = refl
method_mnemonic _ = refl

pub method_foreign : Foreign k.Method
method_foreign = record { mnemonic = method_mnemonic; label = refl; ending = refl }

module _ (key : Keyword) (foreign : Foreign key) where
  no_label : (l : List ℕ) → bytes_eq (l ++ 58 ∷ []) (keyword_text key) ≡ false
  no_label l = false_from_ne_true (bytes_eq (l ++ 58 ∷ []) (keyword_text key))
      (λ same. none-some l (sym (sym (label_cut l) ∙ ap label_of ((bytes_eq-Decides (l ++ 58 ∷ []) (keyword_text key)).0 same) ∙ foreign.label)))

  not_by : (label : Option (List ℕ)) (n : Mnemonic) (ws : List (List ℕ)) → begins_with key (label_words label ++ (mnemonic_text n ∷ ws)) ≡ false
  not_by None n ws = foreign.mnemonic n
  not_by (Some l) n ws = no_label l

  no_instruction : (t : InstructionText) → begins_with key (instruction_words t) ≡ false
  no_instruction t = not_by t.label t.mnemonic t.operands

  -- a method's body, before other statements, has none of those that begin so
  pub body_passes : (code : List InstructionText) (rest : List (List (List ℕ))) →
      filter (begins_with key) ((map instruction_words code ++ end_words ∷ []) ++ rest) ≡ filter (begins_with key) rest
  body_passes [] rest = filter_no (begins_with key) end_words rest foreign.ending
  body_passes (t ∷ ts) rest =
      filter_no (begins_with key) (instruction_words t) ((map instruction_words ts ++ end_words ∷ []) ++ rest) (no_instruction t) ∙ body_passes ts rest

  -- so it is the beginning of the first part, and of no other
  pub body_first : (code : List InstructionText) (rest : List (List (List ℕ))) → part
      (begins_with key) ((map instruction_words code ++ end_words ∷ []) ++ rest) 0 ≡ map instruction_words code ++ (end_words ∷ part (begins_with key) rest 0)
  body_first [] rest = part_first (begins_with key) end_words rest foreign.ending
  body_first (t ∷ ts) rest = part_first (begins_with key) (instruction_words t) ((map instruction_words ts ++ end_words ∷ []) ++ rest) (no_instruction t)
      ∙ ap (λ ws. instruction_words t ∷ ws) (body_first ts rest)

  pub body_later : (code : List InstructionText) (rest : List (List (List ℕ))) (n : ℕ) →
      part (begins_with key) ((map instruction_words code ++ end_words ∷ []) ++ rest) (suc n) ≡ part (begins_with key) rest (suc n)
  body_later [] rest n = part_no (begins_with key) end_words rest n foreign.ending
  body_later (t ∷ ts) rest n =
      part_no (begins_with key) (instruction_words t) ((map instruction_words ts ++ end_words ∷ []) ++ rest) n (no_instruction t) ∙ body_later ts rest n

-- ---- the statements of declarations

abbrev pub method_words : MethodText → List (List ℕ)
method_words t = heading_words t.heading

-- those that begin with `class` are those of the classes
pub class_passes : (ds : List Declaration) → filter (begins_with k.Class) (declared_statements ds) ≡ map class_words (classes_of ds)
class_passes [] = refl
class_passes (source.class t ∷ ds) = filter_yes (begins_with k.Class) (class_words t) (declared_statements ds) refl ∙ ap (λ ws. class_words t ∷ ws) (class_passes ds)
class_passes (source.method t ∷ ds) =
    filter_no (begins_with k.Class) (method_words t) ((map instruction_words t.code ++ end_words ∷ []) ++ declared_statements ds) refl
    ∙ body_passes k.Class class_foreign t.code (declared_statements ds) ∙ class_passes ds

-- those that begin with `method` are those of the methods
pub method_passes : (ds : List Declaration) → filter (begins_with k.Method) (declared_statements ds) ≡ map method_words (methods_of ds)
method_passes [] = refl
method_passes (source.class t ∷ ds) = filter_no (begins_with k.Method) (class_words t) (declared_statements ds) refl ∙ method_passes ds
method_passes (source.method t ∷ ds) =
    filter_yes (begins_with k.Method) (method_words t) ((map instruction_words t.code ++ end_words ∷ []) ++ declared_statements ds) refl
    ∙ ap (λ ws. method_words t ∷ ws) (body_passes k.Method method_foreign t.code (declared_statements ds) ∙ method_passes ds)

-- ---- the instructions of a method

-- an element that is there is there before others too
before_others : (code : List InstructionText) (rest : List (List (List ℕ))) (place : ℕ) (t : InstructionText) →
    slice_get code place ≡ Some t → slice_get (map instruction_words code ++ rest) place ≡ Some (instruction_words t)
before_others [] rest place t there = absurd cc
before_others (c ∷ cs) rest zero t there = ap (λ x. Some (instruction_words x)) (same_Some c t there)
before_others (c ∷ cs) rest (suc place) t there = before_others cs rest place t there

-- behind the statement of a method stand those of its instructions, in their order
pub code_found : (ds : List Declaration) (number place : ℕ) (said : MethodText) (t : InstructionText) → slice_get (methods_of ds) number ≡ Some said →
    slice_get said.code place ≡ Some t → slice_get (part (begins_with k.Method) (declared_statements ds) (suc number)) place ≡ Some (instruction_words t)
code_found [] number place said t method there = absurd cc
code_found (source.class c ∷ ds) number place said t method there = ap (λ ws. slice_get ws place)
    (part_no (begins_with k.Method) (class_words c) (declared_statements ds) number refl) ∙ code_found ds number place said t method there
code_found (source.method s ∷ ds) zero place said t method there =
    let same = same_Some s said method in
    ap (λ ws. slice_get ws place) (part_yes (begins_with k.Method) (method_words s) ((map instruction_words s.code ++ end_words ∷ []) ++ declared_statements ds)
    0 refl ∙ body_first k.Method method_foreign s.code (declared_statements ds)) ∙ before_others s.code
    (end_words ∷ part (begins_with k.Method) (declared_statements ds) 0) place t (ap (λ (x : MethodText). slice_get x.code place) same ∙ there)
code_found (source.method s ∷ ds) (suc number) place said t method there =
    ap (λ ws. slice_get ws place) (part_yes (begins_with k.Method) (method_words s) ((map instruction_words s.code ++ end_words ∷ []) ++ declared_statements ds)
    (suc number) refl ∙ body_later k.Method method_foreign s.code (declared_statements ds) number) ∙ code_found ds number place said t method there

-- ---- pairs

-- what is paired with an element of the second list
pub record PairAt {A B : Type 0} (R : A → B → Type 0) (xs : List A) (place : ℕ) (y : B) : Type 0 where
  pub other : A
  pub there : slice_get xs place ≡ Some other
  pub holds : R other y

pub pair_at : {A B : Type 0} (R : A → B → Type 0) (xs : List A) (ys : List B) (place : ℕ) (y : B) → Pairwise R xs ys →
    slice_get ys place ≡ Some y → PairAt R xs place y
pair_at R [] [] place y each there = absurd cc
pair_at R (a ∷ xs) (b ∷ ys) zero y each there = record { other = a; there = refl; holds = subst (R a) (same_Some b y there) each.0 }
pair_at R (a ∷ xs) (b ∷ ys) (suc place) y each there = let rest = pair_at R xs ys place y each.1 there in
    record { other = rest.other; there = rest.there; holds = rest.holds }
pair_at R _ _ place y each there = absurd each
