-- A word that spells a number, a set or a list is of ASCII.
use Rattle.std.proofs.lemmas.Bool.Decides.{nat_tests}
use Rattle.std.proofs.Common.{◌≡◌, ℕ, ◌==◌, Bool, true, not, List, [], ◌∷◌, length, Some, None, Ok, refl, codes, eqb-true, arith}
use Rattle.aom_asm_semantics.proofs.ImageLemmas.{some_given, true_given}
use Rattle.std.specs.Prelude.{if◌then◌else◌}
use Rattle.std.specs.List.{join_with_byte, list_all}
use Rattle.std.specs.Str.{bytes_eq}
use Rattle.std.proofs.lemmas.Bool.{and_parts}
use Rattle.std.proofs.lemmas.List.Folds.{list_all-append}
use Rattle.std.proofs.lemmas.List.Splits.{join_with_byte-slice_split}
use Rattle.std.proofs.lemmas.Slice.Eq.{bytes_eq-Decides}
use Rattle.aom_text.specs.Numbers.{is_digit, is_digits, number_of}
use Rattle.aom_text.specs.Words.{is_plain}
use Rattle.aom_text.specs.declared.number.Number.{Number}
use Rattle.aom_image.specs.declared.method.States.{States}
use Rattle.aom_syntax.specs.Methods.{cut_letter, letters_of, states_of}
use Rattle.aom_syntax.specs.Reading.{number_in}
use Rattle.aom_asm_semantics.proofs.SyntaxLemmas.{passed}
use Rattle.aom_asm_semantics.proofs.Names.{all_of, digit_is_plain}
use Rattle.aom_asm_semantics.specs.Meaning.{Elements}
use Rattle.aom_asm_semantics.proofs.Pairs.{Pairs, pairs, no_pair, a_pair}

-- ---- numbers

plain_digits : (w : List ℕ) → is_digits w ≡ true → list_all is_plain w ≡ true
plain_digits w is = all_of is_digit is_plain digit_is_plain w (and_parts (not (length w == 0)) (list_all is_digit w) is).1

digits_from : (n m : Number) (b : Bool) → (if b then Some m else None) ≡ Some n → b ≡ true
digits_from n m b is = true_given (λ c. (if c then Some m else None) ≡ Some n) b is (λ e. cc) (λ same e. same)

from_number : (w : List ℕ) (n : Number) → number_of w ≡ Some n → list_all is_plain w ≡ true
from_number [] n is = absurd cc
from_number (b ∷ bs) n is = grind (arith, nat_tests, plain_digits bs, digits_from n, plain_digits (b ∷ bs))

pub plain_number : (low high : ℕ) (w : List ℕ) (n : ℕ) → number_in low high w ≡ Ok n → list_all is_plain w ≡ true
plain_number low high w n is = grind (arith, nat_tests, some_given, from_number w)

-- ---- sets

plain_cut : (letter bit : ℕ) (w : List ℕ) → is_plain letter ≡ true → list_all is_plain (cut_letter letter bit w).1 ≡ true → list_all is_plain w ≡ true
plain_cut letter bit [] is rest = refl
plain_cut letter bit (b ∷ bs) is rest = grind (arith, nat_tests)

plain_letters : (w : List ℕ) → list_all is_plain (letters_of w).1 ≡ true → list_all is_plain w ≡ true
plain_letters w rest = grind (arith, nat_tests, plain_cut)

none_left : (w : List ℕ) → (length w == 0) ≡ true → list_all is_plain w ≡ true
none_left [] is = refl
none_left (b ∷ bs) is = let none : length (b ∷ bs) ≡ 0 = eqb-true (length (b ∷ bs)) 0 is in absurd (omega arith)

pub plain_states : (w : List ℕ) (s : States) → states_of w ≡ Ok s → list_all is_plain w ≡ true
plain_states w s is = grind (arith, nat_tests, bytes_eq-Decides w, plain_letters w, none_left, passed)

-- ---- lists

plain_joined : (ps : List (List ℕ)) → list_all (list_all is_plain) ps ≡ true → list_all is_plain (join_with_byte 44 ps) ≡ true
plain_joined [] is = refl
plain_joined (p ∷ []) is = (and_parts (list_all is_plain p) true is).0
plain_joined (p ∷ q ∷ ps) is = grind (arith, nat_tests, list_all-append, plain_joined (q ∷ ps))

module _ {X : Type 0} (Says : List ℕ → X → Type 0) (plain : (w : List ℕ) (x : X) → Says w x → list_all is_plain w ≡ true) where
  plain_parts : (ps : List (List ℕ)) (xs : List X) → Pairs Says ps xs → list_all (list_all is_plain) ps ≡ true
  plain_parts _ _ no_pair = refl
  plain_parts _ _ (a_pair p ps x xs here more) = rw (plain p x here, plain_parts ps xs more)

  pub plain_list : (w : List ℕ) (xs : List X) → Elements Says (bytes_eq w (codes "-")) w xs → list_all is_plain w ≡ true
  plain_list w xs is = grind (arith, nat_tests, bytes_eq-Decides w, join_with_byte-slice_split 44 w, plain_joined, plain_parts, pairs Says)
