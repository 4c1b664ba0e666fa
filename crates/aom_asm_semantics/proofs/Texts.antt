-- The statements of a program declare its names, and those of a method's code its labels.
use Rattle.std.proofs.lemmas.Bool.Decides.{nat_tests}
use Rattle.std.proofs.lemmas.Option.{same_Some, slice_get-map}
use Rattle.std.proofs.lemmas.Bool.{false_from_ne_true}
use Rattle.std.proofs.Common.{◌≡◌, ℕ, zero, suc, ◌+◌, Bool, true, false, List, [], ◌∷◌, ◌++◌, map, Option, Some, None, refl, sym, ap, ◌∙◌, append_assoc}
use Rattle.std.proofs.Common.{append-nil, arith, slice_get, subst}
use Rattle.std.specs.Prelude.{IfSome, if◌then◌else◌}
use Rattle.std.specs.Str.{bytes_eq}
use Rattle.std.proofs.lemmas.Slice.Eq.{bytes_eq-Decides}
use Rattle.aom_text.specs.Names.{is_name}
use Rattle.aom_text.specs.declared.text.Statement.{Statement}
use Rattle.aom_syntax.specs.Keywords.{keyword_text}
use Rattle.aom_syntax.specs.Methods.{label_of}
use Rattle.aom_instructions.specs.Mnemonics.{mnemonic_text}
use Rattle.aom_syntax.specs.Names.{place_of}
use Rattle.aom_syntax.specs.declared.keyword.Keyword.{Keyword}
use Rattle.aom_syntax.specs.declared.keyword.Keyword.TheVariants as k
use Rattle.aom_instructions.specs.declared.mnemonic.Mnemonic.{Mnemonic}
use Rattle.aom_asm.specs.TextNames.{declared_names, is_end, label_in, label_or_none, labels_of as labels_until, name_after}
use Rattle.aom_asm_semantics.specs.Texts.{all_words}
use Rattle.aom_asm_semantics.proofs.Statements.{label_cut}
use Rattle.aom_asm_semantics.proofs.Tables.{mnemonic_is_no_label}
use Rattle.aom_asm_semantics.proofs.TextNames.{by_words, by_words_more, declared_by_words, image_no_class, image_no_method}
use Rattle.aom_asm_semantics.specs.Denotes.{names_of}
use Rattle.aom_asm_semantics.specs.Meaning.{DeclaredOnce, NameTables, labels_of}
use Rattle.aom_asm_semantics.specs.Source as source
use Rattle.aom_asm_semantics.specs.Source.{Declaration, InstructionText, Source, classes_of, declaration_statements, declared_statements, end_words, header_words}
use Rattle.aom_asm_semantics.specs.Source.{instruction_words, label_words, methods_of, source_statements}
use Rattle.aom_asm_semantics.proofs.Pieces.{NotNext, not_word}
use Rattle.aom_asm_semantics.proofs.Places.{once_found}
use Rattle.aom_asm_semantics.proofs.Following.{first_of}
use Rattle.aom_asm_semantics.proofs.ImageLemmas.{some_given}

-- ---- what an instruction does not begin with

-- a keyword that is neither a mnemonic nor a label
record Foreign (key : Keyword) : Type 0 where
  mnemonic : (n : Mnemonic) → bytes_eq (mnemonic_text n) (keyword_text key) ≡ false
  label : label_of (keyword_text key) ≡ None

class_foreign : (n : Mnemonic) → bytes_eq (mnemonic_text n) (keyword_text k.Class) ≡ false
class_foreign x = grind arith

method_foreign : (n : Mnemonic) → bytes_eq (mnemonic_text n) (keyword_text k.Method) ≡ false
method_foreign x = grind arith

end_foreign : (n : Mnemonic) → bytes_eq (mnemonic_text n) (keyword_text k.End) ≡ false
end_foreign x = grind arith

module _ (key : Keyword) (foreign : Foreign key) where
  no_label : (l : List ℕ) → bytes_eq (l ++ 58 ∷ []) (keyword_text key) ≡ false
  no_label l = grind (arith, nat_tests, false_from_ne_true, label_cut l, bytes_eq-Decides (l ++ 58 ∷ []))

  nameless : (label : Option (List ℕ)) (n : Mnemonic) (ws : List (List ℕ)) → name_after key (label_words label ++ (mnemonic_text n ∷ ws)) ≡ None
  nameless None n [] = refl
  nameless None n (w ∷ ws) = ap (λ (b : Bool). if b then Some w else None) (foreign.mnemonic n)
  nameless (Some l) n ws = ap (λ (b : Bool). if b then Some (mnemonic_text n) else None) (no_label l)

  code_nameless : (code : List InstructionText) (names : List (List ℕ)) → by_words key names (map instruction_words code) ≡ names
  code_nameless [] names = refl
  code_nameless (t ∷ ts) names = grind (arith, nat_tests, by_words, nameless, code_nameless ts names)

  body_nameless : (code : List InstructionText) (names : List (List ℕ)) → by_words key names (map instruction_words code ++ end_words ∷ []) ≡ names
  body_nameless code names = by_words_more key names (map instruction_words code) (end_words ∷ []) ∙ code_nameless code names

-- nor is it the end of a method
ends_not : (label : Option (List ℕ)) (n : Mnemonic) (ws : List (List ℕ)) → is_end (label_words label ++ (mnemonic_text n ∷ ws)) ≡ false
ends_not None n ws = end_foreign n
ends_not (Some l) n ws = no_label k.End (record { mnemonic = end_foreign; label = refl }) l

pub no_end : (t : InstructionText) → is_end (instruction_words t) ≡ false
no_end t = ends_not t.label t.mnemonic t.operands

first_is_not : (label : Option (List ℕ)) (n : Mnemonic) (ws : List (List ℕ)) → NotNext k.End (label_words label ++ (mnemonic_text n ∷ ws))
first_is_not None n ws = not_word k.End (mnemonic_text n) ws (end_foreign n)
first_is_not (Some l) n ws = not_word k.End (l ++ 58 ∷ []) (mnemonic_text n ∷ ws) (no_label k.End (record { mnemonic = end_foreign; label = refl }) l)

pub takes_no_end : (t : InstructionText) → NotNext k.End (instruction_words t)
takes_no_end t = first_is_not t.label t.mnemonic t.operands

-- ---- names

class_names : (ds : List Declaration) (names : List (List ℕ)) → by_words k.Class names (declared_statements ds) ≡ names ++ map (λ t. t.name) (classes_of ds)
class_names [] names = sym (append-nil names)
class_names (source.class t ∷ ds) names = class_names ds (names ++ t.name ∷ []) ∙ append_assoc names (t.name ∷ []) (map (λ t. t.name) (classes_of ds))
class_names (source.method t ∷ ds) names = by_words_more k.Class names (declaration_statements (source.method t)) (declared_statements ds)
    ∙ ap (λ l. by_words k.Class l (declared_statements ds)) (body_nameless k.Class (record { mnemonic = class_foreign; label = refl }) t.code names)
    ∙ class_names ds names

method_names : (ds : List Declaration) (names : List (List ℕ)) →
    by_words k.Method names (declared_statements ds) ≡ names ++ map (λ t. t.heading.name) (methods_of ds)
method_names [] names = sym (append-nil names)
method_names (source.class t ∷ ds) names = method_names ds names
method_names (source.method t ∷ ds) names = by_words_more k.Method names (declaration_statements (source.method t)) (declared_statements ds) ∙ ap (λ l. by_words
    k.Method l (declared_statements ds)) (body_nameless k.Method (record { mnemonic = method_foreign; label = refl }) t.code (names ++ t.heading.name ∷ []))
    ∙ method_names ds (names ++ t.heading.name ∷ []) ∙ append_assoc names (t.heading.name ∷ []) (map (λ t. t.heading.name) (methods_of ds))

-- the names that statements declare
abbrev pub text_names : List Statement → NameTables
text_names ss = record { classes = declared_names k.Class [] ss; methods = declared_names k.Method [] ss }

pub names_are : (s : Source) (ss : List Statement) → all_words ss ≡ source_statements s → text_names ss ≡ names_of s
names_are s ss words =
    search (arith, nat_tests, declared_by_words, by_words, image_no_class, class_names s.declarations, image_no_method, method_names s.declarations)

-- ---- labels

has_label : (label : Option (List ℕ)) (n : Mnemonic) (ws : List (List ℕ)) → label_in (label_words label ++ (mnemonic_text n ∷ ws)) ≡ label_or_none label
has_label x n ws = grind (arith, nat_tests, mnemonic_is_no_label n, label_cut)

pub labels_there : (code : List InstructionText) (left : List (List (List ℕ))) (labels : List (List ℕ)) (ss : List Statement)
    → all_words ss ≡ map instruction_words code ++ (end_words ∷ left) → labels_until labels ss ≡ labels ++ labels_of code
labels_there [] left labels ss words =
    let f = first_of ss words in
    ap (labels_until labels) f.is ∙ ap (λ ws. if is_end ws then labels else labels_until (labels ++ label_in ws ∷ []) f.rest) f.here ∙ sym (append-nil labels)
labels_there (t ∷ ts) left labels ss words =
    let f = first_of ss words in
    ap (labels_until labels) f.is ∙ ap (λ ws. if is_end ws then labels else labels_until (labels ++ label_in ws ∷ []) f.rest) f.here
    ∙ ap (λ b. if b then labels else labels_until (labels ++ label_in (instruction_words t) ∷ []) f.rest) (no_end t)
    ∙ ap (λ l. labels_until (labels ++ l ∷ []) f.rest) (has_label t.label t.mnemonic t.operands)
    ∙ labels_there ts left (labels ++ label_or_none t.label ∷ []) f.rest f.behind ∙ append_assoc labels (label_or_none t.label ∷ []) (labels_of ts)

-- each element has what its place asks, from that place on
abbrev pub EachAt : {X : Type 0} → (ℕ → X → Type 0) → ℕ → List X → Type 0
EachAt P n [] = Unit {0}
EachAt P n (x ∷ xs) = P n x × EachAt P (n + 1) xs

nth_at : {X : Type 0} (P : ℕ → X → Type 0) (n : ℕ) (xs : List X) (i : ℕ) (x : X) → EachAt P n xs → slice_get xs i ≡ Some x → P (n + i) x
nth_at P n [] i x each there = absurd cc
nth_at P n (y ∷ ys) zero x each there =
    let same : n ≡ n + 0 = omega arith in
    subst (λ k. P k x) same (subst (P n) (same_Some y x there) each.0)
nth_at P n (y ∷ ys) (suc i) x each there =
    let same : (n + 1) + i ≡ n + suc i = omega arith in
    subst (λ k. P k x) same (nth_at P (n + 1) ys i x each.1 there)

-- a label is found at the place of its instruction
abbrev LabelAt : List (List ℕ) → ℕ → InstructionText → Type 0
LabelAt labels n t = IfSome t.label (λ l. place_of l labels ≡ Some n)

abbrev pub LabelsPlaced : List (List ℕ) → ℕ → List InstructionText → Type 0
LabelsPlaced labels n code = EachAt (LabelAt labels) n code

-- each name is found at its place
abbrev pub Placed : List (List ℕ) → ℕ → List (List ℕ) → Type 0
Placed space n ws = EachAt (λ k w. place_of w space ≡ Some k) n ws

pub placed_once : (space : List (List ℕ)) → Placed space 0 space → DeclaredOnce space
placed_once space placed = search (arith, nat_tests, once_found space, nth_at)

name_of_label : (label : Option (List ℕ)) (w : List ℕ) → label_or_none label ≡ w → is_name w ≡ true → label ≡ Some w
name_of_label x w same is = grind arith

pub labels_once : (code : List InstructionText) → LabelsPlaced (labels_of code) 0 code → DeclaredOnce (labels_of code)
labels_once code placed = search (arith, nat_tests, once_found, some_given, slice_get-map, name_of_label, same_Some, nth_at)
