-- How many statements declare a name by a keyword, and how many stand before the end of a method.
use Rattle.std.proofs.lemmas.Bool.{false≢true, false_from_ne_true}
use Rattle.std.proofs.lemmas.Bool.Decides.{nat_tests}
use Rattle.std.proofs.lemmas.Option.{same_Some}
use Rattle.std.proofs.Common.{◌≡◌, ◌∙◌, refl, sym, ap, arith, ℕ, suc, ◌+◌, Bool, true, false, List, [], ◌∷◌, ◌++◌, length, length-append, Option}
use Rattle.std.proofs.Common.{Some, None, Ok}
use Rattle.std.specs.Prelude.{if◌then◌else◌}
use Rattle.std.specs.List.{find}
use Rattle.std.specs.Str.{bytes_eq}
use Rattle.std.proofs.lemmas.Slice.Eq.{bytes_eq-Decides}
use Rattle.aom_text.specs.declared.text.Statement.{Statement}
use Rattle.aom_image.specs.declared.image.Header.{Header}
use Rattle.aom_instructions.specs.declared.version.Version.{Version}
use Rattle.aom_instructions.specs.declared.instr.Instr.{Instr}
use Rattle.aom_syntax.specs.Headers.{image_statement}
use Rattle.aom_syntax.specs.Keywords.{keyword_of, keyword_text, keywords}
use Rattle.aom_syntax.specs.Methods.{instruction}
use Rattle.aom_syntax.specs.Reading.{◌>>=◌, any_keyword, known, took, word}
use Rattle.aom_syntax.specs.declared.keyword.Keyword.{Keyword}
use Rattle.aom_syntax.specs.declared.keyword.Keyword.TheVariants as k
use Rattle.aom_syntax.specs.declared.scope.Scope.{Scope}
use Rattle.aom_asm.proofs.SyntaxLemmas.{ok_is, saw_word, steps}
use Rattle.aom_asm.specs.TextNames.{declared_names, is_end, label_in, labels_of, name_after, with_name}
use Rattle.aom_asm.proofs.Steps.{no_ok}
use Rattle.aom_asm.proofs.ImageLemmas.{some_given}

-- ---- names

pub one_of : Option (List ℕ) → ℕ
one_of None = 0
one_of (Some n) = 1

-- the statements that declare a name by a keyword
pub declares : Keyword → List Statement → ℕ
declares key [] = 0
declares key (s ∷ ss) = one_of (name_after key s.words) + declares key ss

length_with : (names : List (List ℕ)) (o : Option (List ℕ)) → length (with_name names o) ≡ length names + one_of o
unfolding one_of
length_with names None = omega arith
length_with names (Some n) = omega (arith, length-append names (n ∷ []))

length_declared : (key : Keyword) (names : List (List ℕ)) (ss : List Statement) → length (declared_names key names ss) ≡ length names + declares key ss
unfolding declares
length_declared key names [] = omega arith
length_declared key names (s ∷ ss) = omega (arith, length_declared key (with_name names (name_after key s.words)) ss, length_with names (name_after key s.words))

pub count_declared : (key : Keyword) (ss : List Statement) → length (declared_names key [] ss) ≡ declares key ss
count_declared key ss = omega (arith, length_declared key [] ss)

pub declares_more : (key : Keyword) (s : Statement) (ss : List Statement) (n : ℕ) → one_of (name_after key s.words) ≡ n → declares key (s ∷ ss) ≡ n + declares key ss
unfolding declares
declares_more key s ss n is = omega (arith, is)

pub declares_none : (key : Keyword) → declares key [] ≡ 0
unfolding declares
declares_none key = refl

-- ---- labels

-- the statements before the end of a method
pub before_end : List Statement → ℕ
before_end [] = 0
before_end (s ∷ ss) = if is_end s.words then 0 else suc (before_end ss)

more : (labels with_one : List (List ℕ)) (ss : List Statement) (b : Bool) → length with_one ≡ length labels + 1 → length (labels_of with_one ss)
    ≡ length with_one + before_end ss → length (if b then labels else labels_of with_one ss) ≡ length labels + (if b then 0 else suc (before_end ss))
more labels with_one ss true one rest = omega arith
more labels with_one ss false one rest = omega (arith, one, rest)

pub length_labels : (labels : List (List ℕ)) (ss : List Statement) → length (labels_of labels ss) ≡ length labels + before_end ss
unfolding before_end
length_labels labels [] = omega arith
length_labels labels (s ∷ ss) = more labels (labels ++ label_in s.words ∷ []) ss (is_end s.words) (length-append labels (label_in s.words ∷ []))
    (length_labels (labels ++ label_in s.words ∷ []) ss)

pub at_end : (s : Statement) (ss : List Statement) → is_end s.words ≡ true → before_end (s ∷ ss) ≡ 0
unfolding before_end
at_end s ss is = ap (λ (b : Bool). if b then 0 else suc (before_end ss)) is

pub not_at_end : (s : Statement) (ss : List Statement) → is_end s.words ≡ false → before_end (s ∷ ss) ≡ suc (before_end ss)
unfolding before_end
not_at_end s ss is = ap (λ (b : Bool). if b then 0 else suc (before_end ss)) is

pub takes_end : (ws : List (List ℕ)) → is_end ws ≡ true → (took k.End ws).0 ≡ true
takes_end [] is = is
takes_end (w ∷ ws) is = ap (λ (p : Bool × List (List ℕ)). p.0) (taken is)
  where
    taken : bytes_eq w (keyword_text k.End) ≡ true → took k.End (w ∷ ws) ≡ (true, ws)
    taken e = ap (λ (b : Bool). if b then (true, ws) else (false, w ∷ ws)) e

pub takes_no_end : (ws : List (List ℕ)) → is_end ws ≡ false → took k.End ws ≡ (false, ws)
takes_no_end [] is = refl
takes_no_end (w ∷ ws) is = ap (λ (b : Bool). if b then (true, ws) else (false, w ∷ ws)) is

-- ---- words

pub found_passes : {X : Type 0} (test : X → Bool) (xs : List X) (x : X) → find test xs ≡ Some x → test x ≡ true
found_passes test [] x is = absurd cc
found_passes {X} test (y ∷ ys) x is = grind (arith, nat_tests, same_Some y x, found_passes test ys x)

known_is : (w : List ℕ) (o : Option Keyword) (key : Keyword) → known w o ≡ Ok key → o ≡ Some key
known_is w o key is = some_given (λ o. known w o ≡ Ok key) o is (λ e. no_ok _ key e) (λ x same e. same ∙ ap Some (ok_is x key e))

-- the word that was read as a keyword
pub begins_with : (ws : List (List ℕ)) (key : Keyword) (rest : List (List ℕ)) → any_keyword ws ≡ Ok (key, rest) → ws ≡ keyword_text key ∷ rest
begins_with ws key rest is =
    let s = steps (word ws) (λ x. known x.0 (keyword_of x.0) >>= λ y. Ok (y, x.1)) (key, rest) is in
    let t = steps (known s.first.0 (keyword_of s.first.0)) (λ y. Ok (y, s.first.1)) (key, rest) s.second in
    let last : (t.first, s.first.1) ≡ (key, rest) = ok_is (t.first, s.first.1) (key, rest) t.second in
    let read : keyword_of s.first.0 ≡ Some key = known_is s.first.0 (keyword_of s.first.0) t.first t.read ∙ ap (λ p. Some p.0) last in
    let same : keyword_text key ≡ s.first.0 = (bytes_eq-Decides _ _).0 (found_passes (λ key. bytes_eq (keyword_text key) s.first.0) keywords key read) in
    saw_word ws s.first.0 s.first.1 s.read ∙ ap (λ v. v ∷ s.first.1) (sym same) ∙ ap (λ p. keyword_text key ∷ p.1) last

-- a name behind its keyword
pub names_one : (key : Keyword) (ws : List (List ℕ)) (n : List ℕ) (rest : List (List ℕ)) → ws ≡ keyword_text key ∷ n ∷ rest → one_of (name_after key ws) ≡ 1
unfolding one_of
names_one key ws n rest is = ap (λ ws. one_of (name_after key ws)) is
    ∙ ap (λ (b : Bool). one_of (if b then Some n else None)) ((bytes_eq-Decides (keyword_text key) (keyword_text key)).1 refl)

-- no name, where the words do not begin with the keyword and another one
pub names_none : (key : Keyword) (ws : List (List ℕ)) → ((n : List ℕ) (rest : List (List ℕ)) → ws ≡ keyword_text key ∷ n ∷ rest → ⊥) → one_of (name_after key ws) ≡ 0
unfolding one_of
names_none key [] never = refl
names_none key (w ∷ []) never = refl
names_none key (w ∷ n ∷ ws) never =
    let other = false_from_ne_true (bytes_eq w (keyword_text key)) (λ is. never n ws (ap (λ v. v ∷ n ∷ ws) ((bytes_eq-Decides w (keyword_text key)).0 is))) in
    ap (λ (b : Bool). one_of (if b then Some n else None)) other

-- ---- what declares no names

-- words that declare neither a class nor a method
pub record Silent (ws : List (List ℕ)) : Type 0 where
  pub class : one_of (name_after k.Class ws) ≡ 0
  pub method : one_of (name_after k.Method ws) ≡ 0

pub end_silent : (ws : List (List ℕ)) → is_end ws ≡ true → Silent ws
end_silent ws is = record {
  class = names_none k.Class ws (λ n rest e. false≢true (ap is_end (sym e) ∙ is));
  method = names_none k.Method ws (λ n rest e. false≢true (ap is_end (sym e) ∙ is));
}

module _ (scope : Scope) where
  pub header_silent : (ws : List (List ℕ)) (x : Header × List (List ℕ)) → image_statement scope ws ≡ Ok x → Silent ws
  header_silent ws x is = record {
    class = names_none k.Class ws (λ n rest e. no_ok _ x (ap (image_statement scope) (sym e) ∙ is));
    method = names_none k.Method ws (λ n rest e. no_ok _ x (ap (image_statement scope) (sym e) ∙ is));
  }

  module _ (version : Version) (labels : List (List ℕ)) (place : ℕ) where
    pub code_silent : (ws : List (List ℕ)) (x : Instr × List (List ℕ)) → instruction scope version labels place ws ≡ Ok x → Silent ws
    code_silent ws x is = record {
      class = names_none k.Class ws (λ n rest e. no_ok _ x (ap (instruction scope version labels place) (sym e) ∙ is));
      method = names_none k.Method ws (λ n rest e. no_ok _ x (ap (instruction scope version labels place) (sym e) ∙ is));
    }

-- what declares a class declares no method, and the other way round

read_key : (key other : Keyword) (rest left : List (List ℕ)) → ◌≡◌ {A = Keyword × List (List ℕ)} (key, rest) (other, left) → key ≡ other
read_key key other rest left e = ap (λ p. p.0) e

class_no_method : (n : List ℕ) (rest left : List (List ℕ)) → any_keyword (keyword_text k.Method ∷ n ∷ rest) ≡ Ok (k.Class, left) → ⊥
class_no_method n rest left is = (let clash : k.Method ≡ k.Class = read_key k.Method k.Class (n ∷ rest) left (ok_is _ _ is) in cc)

method_no_class : (n : List ℕ) (rest left : List (List ℕ)) → any_keyword (keyword_text k.Class ∷ n ∷ rest) ≡ Ok (k.Method, left) → ⊥
method_no_class n rest left is = (let clash : k.Method ≡ k.Class = sym (read_key k.Class k.Method (n ∷ rest) left (ok_is _ _ is)) in cc)

pub class_alone : (ws rest : List (List ℕ)) → any_keyword ws ≡ Ok (k.Class, rest) → one_of (name_after k.Method ws) ≡ 0
class_alone ws rest is = names_none k.Method ws (λ n other e. class_no_method n other rest (ap any_keyword (sym e) ∙ is))

pub method_alone : (ws rest : List (List ℕ)) → any_keyword ws ≡ Ok (k.Method, rest) → one_of (name_after k.Class ws) ≡ 0
method_alone ws rest is = names_none k.Class ws (λ n other e. method_no_class n other rest (ap any_keyword (sym e) ∙ is))
