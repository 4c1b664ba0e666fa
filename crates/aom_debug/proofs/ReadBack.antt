-- A path that the map of owners tells is read back: no blank and no dot stands within a number, so the words and the parts between dots are those that were put
-- together.
use Rattle.std.proofs.Common.{◌≡◌, ◌∙◌, ◌<◌, ◌^◌, ◌==◌, ◌||◌, ◌&&◌, ℕ, Bool, true, false, List, [], ◌∷◌}
use Rattle.std.proofs.Common.{◌++◌, Option, Some, length, refl, sym, ap, append_assoc, get_or, arith}
use Rattle.std.specs.Prelude.{codes, decimal, filter, map, nat_le}
use Rattle.std.specs.List.{All, flat_map, list_all, slice_split}
use Rattle.std.proofs.lemmas.Bool.{and_from, ne_eqb, true≢false}
use Rattle.std.proofs.lemmas.Fmt.{decimal_nonempty}
use Rattle.std.proofs.lemmas.List.{append-nil, length-append}
use Rattle.std.proofs.lemmas.List.Folds.{list_all-append}
use Rattle.std.proofs.lemmas.List.Splits.{slice_split_at, slice_split_none}
use Rattle.std.proofs.lemmas.List.Sums.{AllPass-from_list_all, list_all-from_AllPass}
use Rattle.aom_debug.proofs.AsmSemanticsLemmas.{all_digits, number_of_decimal, within}
use Rattle.aom_text.specs.Numbers.{is_digit, number_of}
use Rattle.aom_text.specs.Words.{has_bytes, is_blank, words}
use Rattle.aom_debug_protocol.specs.Ways.{AreBranches, IsBranch, IsOuter, PathsReadBack, before, branch_said, branch_text, branches_said}
use Rattle.aom_debug_protocol.specs.Ways.{entry_by, field_said, fitting, going_by, is_dot, numbered_outer, outer_text, path_by, path_from}
use Rattle.aom_debug_protocol.specs.Ways.{path_said, plain_outer, register_by, register_outer, session_said, up_to, way_text}
use Rattle.aom_debug_protocol.specs.declared.way.Branch.{Branch}
use Rattle.aom_debug_protocol.specs.declared.way.Branch.TheVariants.{Field, Session}
use Rattle.aom_debug_protocol.specs.declared.way.Outer.{Outer}
use Rattle.aom_debug_protocol.specs.declared.way.Outer.TheVariants.{Entry, Going, Register, Root, Service}

-- ---- bytes

-- a digit or a small letter
is_plain : ℕ → Bool
is_plain b = is_digit b || (nat_le 97 b && nat_le b 122)

-- or a dot
is_word_byte : ℕ → Bool
is_word_byte b = is_plain b || b == 46

differs : (test : ℕ → Bool) (c b : ℕ) → test c ≡ false → test b ≡ true → (b == c) ≡ false
differs test c b fails passes = ne_eqb b c (λ same. true≢false (sym passes ∙ ap test same ∙ fails))

not_blank : (b : ℕ) → is_word_byte b ≡ true → is_blank b ≡ false
unfolding is_word_byte is_plain
not_blank b is =
    ap (λ t. t || b == 9 || b == 13) (differs is_word_byte 32 b refl is) ∙ ap (λ t. t || b == 13) (differs is_word_byte 9 b refl is) ∙ differs is_word_byte 13 b refl is

no_blanks : (bs : List ℕ) → list_all is_word_byte bs ≡ true → All (λ b. is_blank b ≡ false) bs
no_blanks bs are k d less = not_blank (get_or bs k d) (AllPass-from_list_all is_word_byte bs are k d less)

no_dots : (bs : List ℕ) → list_all is_plain bs ≡ true → All (λ b. is_dot b ≡ false) bs
unfolding is_plain
no_dots bs are k d less = differs is_plain 46 (get_or bs k d) refl (AllPass-from_list_all is_plain bs are k d less)

plain_word_byte : (bs : List ℕ) → list_all is_plain bs ≡ true → list_all is_word_byte bs ≡ true
unfolding is_word_byte
plain_word_byte bs are = list_all-from_AllPass is_word_byte bs (λ k d less. ap (λ t. t || get_or bs k d == 46) (AllPass-from_list_all is_plain bs are k d less))

digits_plain : (n : ℕ) → n < 2 ^ 64 → list_all is_plain (decimal n) ≡ true
unfolding is_plain
digits_plain n small =
    list_all-from_AllPass is_plain (decimal n) (λ k d less. ap (λ t. t || (nat_le 97 (get_or (decimal n) k d) && nat_le (get_or (decimal n) k d) 122))
    (AllPass-from_list_all is_digit (decimal n) (all_digits n small) k d less))

-- ---- words

words_one : (t : List ℕ) → list_all is_word_byte t ≡ true → 0 < length t → words t ≡ t ∷ []
words_one [] are some = absurd (omega (arith, some))
words_one (b ∷ bs) are some = ap (filter has_bytes) (slice_split_none is_blank (b ∷ bs) (no_blanks (b ∷ bs) are))

words_more : (w t : List ℕ) → list_all is_word_byte w ≡ true → 0 < length w → words (w ++ 32 ∷ t) ≡ w ∷ words t
words_more [] t are some = absurd (omega (arith, some))
words_more (b ∷ bs) t are some = ap (filter has_bytes) (slice_split_at is_blank (b ∷ bs) 32 t (no_blanks (b ∷ bs) are) refl)

-- ---- branches

branch_word : Branch → List ℕ
branch_word (Field f) = 102 ∷ decimal f
branch_word (Session c) = 115 ∷ decimal c

word_plain : (b : Branch) → IsBranch b → list_all is_plain (branch_word b) ≡ true
unfolding branch_word is_plain
word_plain (Field f) small = digits_plain f (omega (arith, small))
word_plain (Session c) small = digits_plain c (omega (arith, small))

branch_word_byte : (b : Branch) → IsBranch b → list_all is_word_byte (branch_text b) ≡ true
unfolding branch_word is_plain is_word_byte
branch_word_byte (Field f) small = plain_word_byte (decimal f) (digits_plain f (omega (arith, small)))
branch_word_byte (Session c) small = plain_word_byte (decimal c) (digits_plain c (omega (arith, small)))

tail_word_byte : (bs : List Branch) → AreBranches bs → list_all is_word_byte (flat_map branch_text bs) ≡ true
tail_word_byte [] are = refl
tail_word_byte (b ∷ bs) are = list_all-append is_word_byte (branch_text b) (flat_map branch_text bs) ∙ and_from _ _ (branch_word_byte b are.0) (tail_word_byte bs are.1)

split_parts : (w : List ℕ) (bs : List Branch) → list_all is_plain w ≡ true → AreBranches bs →
    slice_split is_dot (w ++ flat_map branch_text bs) ≡ w ∷ map branch_word bs
unfolding branch_word
split_parts w [] are branches = ap (slice_split is_dot) (append-nil w) ∙ slice_split_none is_dot w (no_dots w are)
split_parts w (Field f ∷ bs) are branches = slice_split_at is_dot w 46 (branch_word (Field f) ++ flat_map branch_text bs) (no_dots w are) refl
    ∙ ap (λ ps. w ∷ ps) (split_parts (branch_word (Field f)) bs (word_plain (Field f) branches.0) branches.1)
split_parts w (Session c ∷ bs) are branches = slice_split_at is_dot w 46 (branch_word (Session c) ++ flat_map branch_text bs) (no_dots w are) refl
    ∙ ap (λ ps. w ∷ ps) (split_parts (branch_word (Session c)) bs (word_plain (Session c) branches.0) branches.1)

branch_back : (b : Branch) → IsBranch b → branch_said (branch_word b) ≡ Some b
unfolding branch_word
branch_back (Field f) small = ap (λ o. field_said (up_to 7 o)) (number_of_decimal f (omega (arith, small))) ∙ ap field_said (within 0 7 f (omega arith) small)
branch_back (Session c) small = ap (λ o. session_said (up_to 63 o)) (number_of_decimal c (omega (arith, small)))
    ∙ ap session_said (within 0 63 c (omega arith) small)

branches_back : (bs : List Branch) → AreBranches bs → branches_said (map branch_word bs) ≡ Some bs
branches_back [] are = refl
branches_back (b ∷ bs) are = ap (λ o. before o (branches_said (map branch_word bs))) (branch_back b are.0) ∙ ap (before (Some b)) (branches_back bs are.1)

-- ---- ways

module _ (bs : List Branch) (are : AreBranches bs) where
  abbrev t : List ℕ
  t = flat_map branch_text bs

  -- with a plain word before them
  word_byte_before : (w : List ℕ) → list_all is_plain w ≡ true → list_all is_word_byte (w ++ t) ≡ true
  word_byte_before w plain = list_all-append is_word_byte w t ∙ and_from _ _ (plain_word_byte w plain) (tail_word_byte bs are)

  some_before : (w : List ℕ) → 0 < length w → 0 < length (w ++ t)
  some_before w some = omega (arith, some, length-append w t)

  last_word : (w : List ℕ) → list_all is_plain w ≡ true → 0 < length w → words (w ++ t) ≡ (w ++ t) ∷ []
  last_word w plain some = words_one (w ++ t) (word_byte_before w plain) (some_before w some)

  -- by what the place says
  by_place : (outer : List ℕ → Option Outer) (w : List ℕ) (o : Outer) →
      list_all is_plain w ≡ true → outer w ≡ Some o → path_by outer (slice_split is_dot (w ++ t)) ≡ fitting (record { outer = o; branches = bs })
  by_place outer w o plain says = ap (path_by outer) (split_parts w bs plain are) ∙ ap (λ x. path_from x (branches_said (map branch_word bs))) says
      ∙ ap (path_from (Some o)) (branches_back bs are)

  back : (o : Outer) → IsOuter o → path_said (words (way_text (record { outer = o; branches = bs }))) ≡ fitting (record { outer = o; branches = bs })
  unfolding is_plain is_word_byte
  back Root is = ap path_said (last_word (codes "root") refl (omega arith)) ∙ by_place plain_outer (codes "root") Root refl refl
  back Service is = ap path_said (last_word (codes "service") refl (omega arith)) ∙ by_place plain_outer (codes "service") Service refl refl
  back (Entry k) is =
      let plain = digits_plain k (omega (arith, is)) in
      ap path_said (words_more (codes "clean") (decimal k ++ t) refl (omega arith) ∙ ap (λ ws. codes "clean" ∷ ws)
      (last_word (decimal k) plain (decimal_nonempty k (omega (arith, is))))) ∙ by_place (numbered_outer (codes "clean")) (decimal k)
      (Entry k) plain (ap (λ o. entry_by (up_to 65535 o)) (number_of_decimal k (omega (arith, is))) ∙ ap entry_by (within 0 65535 k (omega arith) is))
  back (Going k) is =
      let plain = digits_plain k (omega (arith, is)) in
      ap path_said (words_more (codes "going") (decimal k ++ t) refl (omega arith) ∙ ap (λ ws. codes "going" ∷ ws)
      (last_word (decimal k) plain (decimal_nonempty k (omega (arith, is))))) ∙ by_place (numbered_outer (codes "going")) (decimal k)
      (Going k) plain (ap (λ o. going_by (up_to 65535 o)) (number_of_decimal k (omega (arith, is))) ∙ ap going_by (within 0 65535 k (omega arith) is))
  back (Register f i) is =
      let frame = digits_plain f (omega (arith, is.0)) in
      let plain = digits_plain i (omega (arith, is.1)) in
      ap (λ u. path_said (words u)) (register_text f i)
      ∙ ap path_said (words_more (codes "reg") (decimal f ++ 32 ∷ ((114 ∷ decimal i) ++ t)) refl (omega arith)
      ∙ ap (λ ws. codes "reg" ∷ ws) (words_more (decimal f) ((114 ∷ decimal i) ++ t) (plain_word_byte (decimal f) frame) (decimal_nonempty f (omega (arith, is.0)))
      ∙ ap (λ ws. decimal f ∷ ws) (last_word (114 ∷ decimal i) plain (omega arith))))
      ∙ by_place (register_outer (codes "reg") (decimal f)) (114 ∷ decimal i) (Register f i) plain
      (ap (λ o. register_by (up_to 65535 o) (up_to 15 (number_of (decimal i)))) (number_of_decimal f (omega (arith, is.0)))
      ∙ ap (λ o. register_by o (up_to 15 (number_of (decimal i)))) (within 0 65535 f (omega arith) is.0)
      ∙ ap (λ o. register_by (Some f) (up_to 15 o)) (number_of_decimal i (omega (arith, is.1))) ∙ ap (register_by (Some f)) (within 0 15 i (omega arith) is.1))
    where
      register_text : (f i : ℕ) → outer_text (Register f i) ++ t ≡ codes "reg" ++ 32 ∷ (decimal f ++ 32 ∷ ((114 ∷ decimal i) ++ t))
      register_text f i = ap (λ u. codes "reg " ++ u) (append_assoc (decimal f ++ codes " r") (decimal i) t ∙ append_assoc (decimal f) (codes " r") (decimal i ++ t))

pub paths_read_back : PathsReadBack
paths_read_back w outer are = back w.branches are w.outer outer
