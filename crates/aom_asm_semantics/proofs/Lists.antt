-- A list in one word reads back: it is parted at its commas, and each part is read.
use Rattle.std.proofs.lemmas.Bool.Decides.{nat_tests}
use Rattle.std.proofs.Common.{◌≡◌, ℕ, ◌+◌, ◌≤◌, ◌==◌, true, false, List, [], ◌∷◌, ◌++◌, length, map, Result, Ok, Err, refl, sym, ap, ◌∙◌, append_assoc}
use Rattle.std.proofs.Common.{append-nil, arith}
use Rattle.std.specs.Prelude.{codes, if◌then◌else◌}
use Rattle.std.specs.List.{All, list_all, slice_split}
use Rattle.std.specs.Str.{bytes_eq}
use Rattle.std.proofs.Math.ListN.{length-append}
use Rattle.std.proofs.lemmas.Bool.{and_parts, lt-ltb}
use Rattle.std.proofs.lemmas.Grind.{common_steps}
use Rattle.std.proofs.lemmas.List.Elements.{All-cons, All-head, All-nil, All-tail}
use Rattle.std.proofs.lemmas.List.Folds.{list_all-append}
use Rattle.std.proofs.lemmas.List.Splits.{slice_split_at, slice_split_none}
use Rattle.aom_text.specs.Names.{has_name_form, is_name_byte, starts_with_letter}
use Rattle.aom_text.specs.Words.{is_plain}
use Rattle.aom_text.specs.declared.fault.AsmFaultKind.{AsmFaultKind}
use Rattle.aom_text.specs.declared.fault.AsmFaultKind.TheVariants.{LimitPassed}
use Rattle.aom_syntax.specs.Classes.{elements, listed}
use Rattle.aom_syntax.specs.Reading.{◌>>=◌, seen, word}
use Rattle.aom_disassembler.specs.Text.{behind, list_word, parted_by}
use Rattle.aom_asm_semantics.proofs.Names.{all_of}
use Rattle.aom_asm_semantics.proofs.Readings.{Takes, sees, takes_word}

-- ---- words that look like names

name_byte_is_plain : (b : ℕ) → is_name_byte b ≡ true → is_plain b ≡ true
name_byte_is_plain b h = grind (arith, common_steps)

name_byte_is_no_comma : (b : ℕ) → is_name_byte b ≡ true → (b == 44) ≡ false
name_byte_is_no_comma b h = grind (arith, common_steps)

abbrev IsNoComma : ℕ → Type 0
IsNoComma b = (b == 44) ≡ false

no_commas : (bs : List ℕ) → list_all is_name_byte bs ≡ true → All IsNoComma bs
no_commas [] all = All-nil IsNoComma
no_commas (b ∷ bs) all = grind (arith, name_byte_is_no_comma b, no_commas bs)

-- a letter, and then bytes of names
abbrev pub HasForm : List ℕ → Type 0
HasForm w = has_name_form w ≡ true

pub plain_form : (w : List ℕ) → has_name_form w ≡ true → list_all is_plain w ≡ true
plain_form w form = all_of is_name_byte is_plain name_byte_is_plain w (and_parts (starts_with_letter w) (list_all is_name_byte w) form).1

-- ---- commas

behind_is_plain : (ps : List (List ℕ)) → All HasForm ps → list_all is_plain (behind 44 ps) ≡ true
behind_is_plain [] forms = refl
behind_is_plain (p ∷ ps) forms = list_all-append is_plain p (behind 44 ps)
    ∙ rw (plain_form p (All-head HasForm p ps forms), behind_is_plain ps (All-tail HasForm p ps forms))

parted_is_plain : (ps : List (List ℕ)) → All HasForm ps → list_all is_plain (list_word ps) ≡ true
parted_is_plain [] forms = refl
parted_is_plain (p ∷ ps) forms = list_all-append is_plain p (behind 44 ps)
    ∙ rw (plain_form p (All-head HasForm p ps forms), behind_is_plain ps (All-tail HasForm p ps forms))

-- parts between commas are found again
parts_again : (p : List ℕ) (ps : List (List ℕ)) → has_name_form p ≡ true → All HasForm ps → slice_split (λ b. b == 44) (parted_by 44 (p ∷ ps)) ≡ p ∷ ps
parts_again p [] form forms = ap (slice_split (λ b. b == 44)) (append-nil p)
    ∙ slice_split_none (λ b. b == 44) p (no_commas p (and_parts (starts_with_letter p) (list_all is_name_byte p) form).1)
parts_again p (q ∷ qs) form forms = grind (arith, slice_split_at, no_commas, parts_again q qs (All-head HasForm q qs forms) (All-tail HasForm q qs forms))

-- a list that begins with a letter is not the empty one
not_minus : (p : List ℕ) (more : List ℕ) → has_name_form p ≡ true → bytes_eq (p ++ more) (codes "-") ≡ false
not_minus p more form = grind arith

-- ---- elements

module _ {X : Type 0} (most : ℕ) (one : List ℕ → Result X AsmFaultKind) (written : X → List ℕ) where
  -- how an element is written reads back
  pub record Element (x : X) : Type 0 where
    pub form : has_name_form (written x) ≡ true
    pub reads : one (written x) ≡ Ok x

  forms_of : (xs : List X) → All Element xs → All HasForm (map written xs)
  forms_of [] each = All-nil HasForm
  forms_of (x ∷ xs) each = All-cons HasForm (written x) (map written xs) (All-head Element x xs each).form (forms_of xs (All-tail Element x xs each))

  elements_read : (front xs : List X) → length front + length xs ≤ most → All Element xs → elements most one front (map written xs) ≡ Ok (front ++ xs)
  elements_read front [] few each = ap Ok (sym (append-nil front))
  elements_read front (x ∷ xs) few each =
      ap (λ b. if b then (one (written x) >>= λ y. elements most one (front ++ y ∷ []) (map written xs)) else Err LimitPassed) (lt-ltb (length front) most
      (omega arith)) ∙ ap (λ e. e >>= λ y. elements most one (front ++ y ∷ []) (map written xs)) (All-head Element x xs each).reads ∙ elements_read
      (front ++ x ∷ []) xs (omega (arith, length-append front (x ∷ []))) (All-tail Element x xs each) ∙ ap Ok (append_assoc front (x ∷ []) xs)

  list_reads : (xs : List X) → length xs ≤ most → All Element xs → listed most one (list_word (map written xs)) ≡ Ok xs
  list_reads [] few each = refl
  list_reads (x ∷ xs) few each = grind (
    arith,
    nat_tests,
    not_minus (written x),
    All-head Element x xs each,
    parts_again (written x),
    forms_of xs (All-tail Element x xs each),
    All-tail Element x xs each,
    elements_read,
  )

  pub takes_list : (xs : List X) → length xs ≤ most → All Element xs → Takes (seen (listed most one) word) (list_word (map written xs) ∷ []) xs
  takes_list xs few each = grind (arith, nat_tests, sees, takes_word, parted_is_plain, forms_of, list_reads)
