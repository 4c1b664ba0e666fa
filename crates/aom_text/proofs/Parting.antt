-- The parts of a text by where the first end is.
use Rattle.std.proofs.Common.{◌≡◌, ℕ, suc, ◌+◌, ◌-◌, ◌<◌, ◌≤◌, ◌==◌, ◌&&◌, ◌||◌, Bool, true, false, not, cond, nat_lt, nat_le, List, []}
use Rattle.std.proofs.Common.{◌∷◌, Option, Some, None, length, take, drop, map, refl, sym, ap, subst, ◌∙◌, arith, rules, tests}
use Rattle.std.specs.List.{filter, slice_split, onto_first, find, position, position_or_len}
use Rattle.std.proofs.lemmas.Grind.{common_steps}
use Rattle.std.proofs.lemmas.List.{take_all, take_rest}
use Rattle.std.proofs.lemmas.List.Splits.{slice_split_first}
use Rattle.aom_text.specs.Words.{is_blank, is_plain, has_bytes, words}
use Rattle.aom_text.specs.Text.{true_lines, lines_of, worded, put_words, has_words, in_line, other_byte, comment_statements}
use Rattle.std.proofs.lemmas.Bool.{or_parts}
use Rattle.std.proofs.lemmas.Bool.Decides.{nat_tests}

-- where a place is chosen, it is the one that the test was for
chosen : (t : Bool) (n i : ℕ) → cond t (Some n) None ≡ Some i → (t ≡ true) × (n ≡ i)
chosen x n i is = grind arith

not_chosen : (t : Bool) (n : ℕ) → cond t (Some n) None ≡ None → t ≡ false
not_chosen x n is = grind arith

below : (a b : ℕ) → a < b → nat_lt a b ≡ true
below a b less = grind (arith, nat_tests)

not_below : (a b : ℕ) → b ≤ a → nat_lt a b ≡ false
not_below a b more = grind (arith, nat_tests)

-- the first byte that passes, by how many come before it
pub found : (p : ℕ → Bool) (bs : List ℕ) (i : ℕ) → i ≡ position_or_len p bs → i < length bs → position p bs ≡ Some i
found p bs i is within = subst (λ k. cond (nat_lt k (length bs)) (Some k) None ≡ Some i) is (ap (λ t. cond t (Some i) None) (below i (length bs) within))

pub not_found : (p : ℕ → Bool) (bs : List ℕ) (i : ℕ) → i ≡ position_or_len p bs → length bs ≤ i → position p bs ≡ None
not_found p bs i is past = subst (λ k. cond (nat_lt k (length bs)) (Some k) None ≡ None) is (ap (λ t. cond t (Some i) None) (not_below i (length bs) past))

-- ---- parts in general

pub split_some : (p : ℕ → Bool) (bs : List ℕ) (i : ℕ) → position p bs ≡ Some i →
    slice_split p bs ≡ take i bs ∷ slice_split p (take (length bs - (i + 1)) (drop (i + 1) bs))
split_some p bs i is =
    let at = chosen (nat_lt (position_or_len p bs) (length bs)) (position_or_len p bs) i is in
    let within : position_or_len p bs < length bs = search (rules, tests, at.0) in
    slice_split_first p bs 0 within ∙ ap (λ n. take n bs ∷ slice_split p (drop (n + 1) bs)) at.1
    ∙ ap (λ (rest : List ℕ). take i bs ∷ slice_split p rest) (sym (take_rest bs (i + 1)))

one_part : (p : ℕ → Bool) (bs : List ℕ) → nat_lt (position_or_len p bs) (length bs) ≡ false → slice_split p bs ≡ bs ∷ []
one_part p [] h = refl
one_part p (b ∷ bs) h = elim (p b) as (λ t. nat_lt (cond (not t) (1 + position_or_len p bs) 0) (length (b ∷ bs)) ≡ false →
    cond t ([] ∷ slice_split p bs) (onto_first b (slice_split p bs)) ≡ (b ∷ bs) ∷ []) [
      | true ↦ λ past. absurd (grind (arith, common_steps))
      | false ↦ λ past. ap (onto_first b) (one_part p bs (grind (arith, common_steps)))
    ] h

pub split_none : (p : ℕ → Bool) (bs : List ℕ) → position p bs ≡ None → slice_split p bs ≡ bs ∷ []
split_none p bs is = one_part p bs (not_chosen _ _ is)

-- what a list of parts begins with
pub record NonEmptyParts (parts : List (List ℕ)) : Type 0 where
  pub part : List ℕ
  pub more : List (List ℕ)
  pub is : parts ≡ part ∷ more

-- a list is cut into one part at least
has_parts : (p : ℕ → Bool) (bs : List ℕ) → NonEmptyParts (slice_split p bs)
has_parts p [] = record { part = []; more = []; is = refl }
has_parts p (b ∷ bs) = elim (p b) as (λ t. NonEmptyParts (cond t ([] ∷ slice_split p bs) (onto_first b (slice_split p bs)))) [
  | true ↦ record { part = []; more = slice_split p bs; is = refl }
  | false ↦ let rest = has_parts p bs in record { part = b ∷ rest.part; more = rest.more; is = ap (onto_first b) rest.is }
]

-- ---- lines

-- a part before others is a line
one_more : (part : List ℕ) (parts : List (List ℕ)) → NonEmptyParts parts → true_lines (part ∷ parts) ≡ part ∷ true_lines parts
one_more part parts h = subst (λ ps. true_lines (part ∷ ps) ≡ part ∷ true_lines ps) (sym h.is) refl

pub lines_first : (bs : List ℕ) (i : ℕ) → position (λ b. b == 10) bs ≡ Some i → lines_of bs ≡ take i bs ∷ lines_of (take (length bs - (i + 1)) (drop (i + 1) bs))
lines_first bs i is = ap true_lines (split_some (λ b. b == 10) bs i is) ∙ one_more (take i bs)
    (slice_split (λ b. b == 10) (take (length bs - (i + 1)) (drop (i + 1) bs))) (has_parts (λ b. b == 10) (take (length bs - (i + 1)) (drop (i + 1) bs)))

pub lines_only : (bs : List ℕ) → position (λ b. b == 10) bs ≡ None → 0 < length bs → lines_of bs ≡ bs ∷ []
lines_only [] is some = absurd (omega arith)
lines_only (b ∷ bs) is some = ap true_lines (split_none (λ b. b == 10) (b ∷ bs) is)

-- ---- parts of a line

put_is : (ws : List (List ℕ)) (rest : List (List (List ℕ))) → filter has_words (ws ∷ rest) ≡ put_words ws (filter has_words rest)
put_is [] rest = refl
put_is (w ∷ ws) rest = refl

pub worded_first : (bs : List ℕ) (i : ℕ) → position (λ b. b == 59) bs ≡ Some i →
    worded bs ≡ put_words (words (take i bs)) (worded (take (length bs - (i + 1)) (drop (i + 1) bs)))
worded_first bs i is = ap (λ ps. filter has_words (map words ps)) (split_some (λ b. b == 59) bs i is)
    ∙ put_is (words (take i bs)) (map words (slice_split (λ b. b == 59) (take (length bs - (i + 1)) (drop (i + 1) bs))))

pub worded_only : (bs : List ℕ) → position (λ b. b == 59) bs ≡ None → worded bs ≡ put_words (words bs) []
worded_only bs is = ap (λ ps. filter has_words (map words ps)) (split_none (λ b. b == 59) bs is) ∙ put_is (words bs) []

-- ---- words

one_on : (n : ℕ) → 1 + n ≡ suc n
one_on n = omega arith

drop_one : (n b : ℕ) (bs : List ℕ) → drop (1 + n) (b ∷ bs) ≡ drop n bs
drop_one n b bs = ap (λ k. drop k (b ∷ bs)) (one_on n)

take_one : (n b : ℕ) (bs : List ℕ) → take (1 + n) (b ∷ bs) ≡ b ∷ take n bs
take_one n b bs = ap (λ k. take k (b ∷ bs)) (one_on n)

-- where the first byte is of which a test is false, what is said of a text by what is left of it there
pub record First (p : ℕ → Bool) (So : List ℕ → List ℕ → Type 0) (bs : List ℕ) (i : ℕ) : Type 0 where
  pub first : ℕ
  pub more : List ℕ
  pub at : drop i bs ≡ first ∷ more
  pub is : p first ≡ false
  pub so : So bs (first ∷ more)

-- it is said of a text if it is of the text behind a byte that passes
module _ (p : ℕ → Bool) where
  first_at : (So : List ℕ → List ℕ → Type 0) → ((bs : List ℕ) → So bs bs) → ((b : ℕ) (bs rest : List ℕ) → p b ≡ true → So bs rest → So (b ∷ bs) rest)
      → (bs : List ℕ) → nat_lt (position_or_len (λ b. not (p b)) bs) (length bs) ≡ true → First p So bs (position_or_len (λ b. not (p b)) bs)
  first_at So self behind [] h = absurd cc
  first_at So self behind (b ∷ bs) h = let known : (t : Bool) → p b ≡ t → nat_lt (cond (not (not t)) (1 + position_or_len (λ b. not (p b)) bs) 0)
      (length (b ∷ bs)) ≡ true → First p So (b ∷ bs) (cond (not (not t)) (1 + position_or_len (λ b. not (p b)) bs) 0) =
      λ t. elim t as (λ t. p b ≡ t → nat_lt (cond (not (not t)) (1 + position_or_len (λ b. not (p b)) bs) 0) (length (b ∷ bs)) ≡ true →
      First p So (b ∷ bs) (cond (not (not t)) (1 + position_or_len (λ b. not (p b)) bs) 0)) [
        | true ↦ λ e past. let rest = first_at So self behind bs (grind (arith, common_steps)) in record {
          first = rest.first;
          more = rest.more;
          at = drop_one (position_or_len (λ b. not (p b)) bs) b bs ∙ rest.at;
          is = rest.is;
          so = behind b bs (rest.first ∷ rest.more) e rest.so;
        }
        | false ↦ λ e past. record { first = b; more = bs; at = refl; is = e; so = self (b ∷ bs) }
      ] in
      known (p b) refl h

  -- and of one in which each byte passes
  none_at : (So : List ℕ → Type 0) → So [] → ((b : ℕ) (bs : List ℕ) → p b ≡ true → So bs → So (b ∷ bs)) → (bs : List ℕ) →
      nat_lt (position_or_len (λ b. not (p b)) bs) (length bs) ≡ false → So bs
  none_at So self behind [] h = self
  none_at So self behind (b ∷ bs) h =
      elim (p b) as (λ t. p b ≡ t → nat_lt (cond (not (not t)) (1 + position_or_len (λ b. not (p b)) bs) 0) (length (b ∷ bs)) ≡ false → So (b ∷ bs)) [
        | true ↦ λ e past. behind b bs e (none_at So self behind bs (grind (arith, common_steps)))
        | false ↦ λ e past. absurd (grind (arith, common_steps))
      ] refl h

-- a blank before them changes no words
blank_first : (b : ℕ) (bs : List ℕ) (ws : List (List ℕ)) → is_blank b ≡ true → words bs ≡ ws → words (b ∷ bs) ≡ ws
blank_first b bs ws e same = ap (λ t. filter has_bytes (cond t ([] ∷ slice_split is_blank bs) (onto_first b (slice_split is_blank bs)))) e ∙ same

-- the words begin where the first byte is that is no blank
abbrev Inked : List ℕ → ℕ → Type 0
Inked = First is_blank (λ bs rest. words bs ≡ words rest)

inked : (bs : List ℕ) → nat_lt (position_or_len (λ b. not (is_blank b)) bs) (length bs) ≡ true → Inked bs (position_or_len (λ b. not (is_blank b)) bs)
inked = first_at is_blank (λ bs rest. words bs ≡ words rest) (λ bs. refl) (λ b bs rest e same. blank_first b bs (words rest) e same)

all_blank : (bs : List ℕ) → nat_lt (position_or_len (λ b. not (is_blank b)) bs) (length bs) ≡ false → words bs ≡ []
all_blank = none_at is_blank (λ bs. words bs ≡ []) refl (λ b bs e same. blank_first b bs [] e same)

pub words_none : (bs : List ℕ) (i : ℕ) → i ≡ position_or_len (λ b. not (is_blank b)) bs → length bs ≤ i → words bs ≡ []
words_none bs i is past = all_blank bs (subst (λ k. nat_lt k (length bs) ≡ false) is (not_below i (length bs) past))

-- where the first blank is, a text is parted into what comes before it and parts that have the words behind it
record Cut (bs : List ℕ) (e : ℕ) : Type 0 where
  later : List (List ℕ)
  parts : slice_split is_blank bs ≡ take e bs ∷ later
  behind : filter has_bytes later ≡ words (drop (e + 1) bs)

cut : (bs : List ℕ) → Cut bs (position_or_len is_blank bs)
cut [] = record { later = []; parts = refl; behind = refl }
cut (b ∷ bs) =
    let n = position_or_len is_blank bs in
    let further : 1 + n + 1 ≡ 1 + (n + 1) = omega arith in
    let known : (t : Bool) → is_blank b ≡ t → Cut (b ∷ bs) (cond (not t) (1 + n) 0) =
    λ t. elim t as (λ t. is_blank b ≡ t → Cut (b ∷ bs) (cond (not t) (1 + n) 0)) [
      | true ↦ λ e. record {
        later = slice_split is_blank bs;
        parts = ap (λ t. cond t ([] ∷ slice_split is_blank bs) (onto_first b (slice_split is_blank bs))) e;
        behind = refl;
      }
      | false ↦ λ e. let rest = cut bs in record {
        later = rest.later;
        parts = ap (λ t. cond t ([] ∷ slice_split is_blank bs) (onto_first b (slice_split is_blank bs))) e ∙ ap (onto_first b) rest.parts
            ∙ ap (λ w. w ∷ rest.later) (sym (take_one n b bs));
        behind = rest.behind ∙ ap words (sym (ap (λ k. drop k (b ∷ bs)) further ∙ drop_one (n + 1) b bs));
      }
    ] in
    known (is_blank b) refl

-- the first word, of what begins with no blank
word_then : (b : ℕ) (bs : List ℕ) (e : ℕ) → is_blank b ≡ false → e ≡ position_or_len is_blank (b ∷ bs) →
    words (b ∷ bs) ≡ take e (b ∷ bs) ∷ words (take (length (b ∷ bs) - (e + 1)) (drop (e + 1) (b ∷ bs)))
word_then b bs e ink end =
    let n = position_or_len is_blank bs in
    let rest = cut bs in
    let further : e ≡ 1 + n = end ∙ ap (λ t. cond (not t) (1 + n) 0) ink in
    let one : e + 1 ≡ 1 + (n + 1) = omega (arith, further) in
    let behind : drop (e + 1) (b ∷ bs) ≡ drop (n + 1) bs = ap (λ k. drop k (b ∷ bs)) one ∙ drop_one (n + 1) b bs in
    ap (λ t. filter has_bytes (cond t ([] ∷ slice_split is_blank bs) (onto_first b (slice_split is_blank bs)))) ink
    ∙ ap (λ ps. filter has_bytes (onto_first b ps)) rest.parts
    ∙ ap (λ ws. (b ∷ take n bs) ∷ ws) rest.behind
    ∙ ap (λ w. w ∷ words (drop (n + 1) bs)) (sym (ap (λ k. take k (b ∷ bs)) further ∙ take_one n b bs))
    ∙ ap (λ r. take e (b ∷ bs) ∷ words r) (sym (take_rest (b ∷ bs) (e + 1) ∙ behind))

pub word_first : (bs : List ℕ) (i e : ℕ) → i ≡ position_or_len (λ b. not (is_blank b)) bs → i < length bs →
    e ≡ position_or_len is_blank (take (length bs - i) (drop i bs)) → words bs ≡ take e (take (length bs - i) (drop i bs)) ∷ words
    (take (length (take (length bs - i) (drop i bs)) - (e + 1)) (drop (e + 1) (take (length bs - i) (drop i bs))))
word_first bs i e is within ends =
    let ink : Inked bs i = subst (Inked bs) (sym is) (inked bs (subst (λ k. nat_lt k (length bs) ≡ true) is (below i (length bs) within))) in
    let same : take (length bs - i) (drop i bs) ≡ ink.first ∷ ink.more = take_rest bs i ∙ ink.at in
    subst (λ (t : List ℕ). e ≡ position_or_len is_blank t → words bs ≡ take e t ∷ words (take (length t - (e + 1)) (drop (e + 1) t)))
    (sym same) (λ h. ink.so ∙ word_then ink.first ink.more e ink.is h) ends

-- where it goes to the end, it is the only one
pub word_only : (bs : List ℕ) (i e : ℕ) → i ≡ position_or_len (λ b. not (is_blank b)) bs → i < length bs →
    e ≡ position_or_len is_blank (take (length bs - i) (drop i bs)) → length (take (length bs - i) (drop i bs)) ≤ e → words bs ≡ take (length bs - i) (drop i bs) ∷ []
word_only bs i e is within ends past =
    let inks = take (length bs - i) (drop i bs) in
    let none : length inks - (e + 1) ≡ 0 = omega (arith, past) in
    word_first bs i e is within ends ∙ ap (λ k. take e inks ∷ words (take k (drop (e + 1) inks))) none ∙ ap (λ w. w ∷ []) (take_all e inks past)

-- ---- comments

-- a byte that a text may have before them changes nothing of what is found
plain_first : (b : ℕ) (bs : List ℕ) (found : Option ℕ) → is_plain b ≡ true → find (λ b. not (is_plain b)) bs ≡ found → find (λ b. not (is_plain b)) (b ∷ bs) ≡ found
plain_first b bs found e same = ap (λ t. cond (not t) (Some b) (find (λ b. not (is_plain b)) bs)) e ∙ same

-- the first byte that a text may not have is found
abbrev Other : List ℕ → ℕ → Type 0
Other = First is_plain (λ bs rest. find (λ b. not (is_plain b)) bs ≡ find (λ b. not (is_plain b)) rest)

other : (bs : List ℕ) → nat_lt (position_or_len (λ b. not (is_plain b)) bs) (length bs) ≡ true → Other bs (position_or_len (λ b. not (is_plain b)) bs)
other = first_at is_plain (λ bs rest. find (λ b. not (is_plain b)) bs ≡ find (λ b. not (is_plain b)) rest) (λ bs. refl)
    (λ b bs rest e same. plain_first b bs (find (λ b. not (is_plain b)) rest) e same)

no_other : (bs : List ℕ) → nat_lt (position_or_len (λ b. not (is_plain b)) bs) (length bs) ≡ false → find (λ b. not (is_plain b)) bs ≡ None
no_other = none_at is_plain (λ bs. find (λ b. not (is_plain b)) bs ≡ None) refl (λ b bs e same. plain_first b bs None e same)

second : (p q : Bool) → (p || q) ≡ false → q ≡ false
second p q h = (or_parts p q h).1

one_word : (b : ℕ) → is_blank b ≡ false → words (b ∷ []) ≡ (b ∷ []) ∷ []
one_word b e = ap (λ t. filter has_bytes (cond t ([] ∷ slice_split is_blank []) (onto_first b (slice_split is_blank [])))) e

pub comment_some : (n : ℕ) (bs : List ℕ) (i : ℕ) → position (λ b. not (is_plain b)) bs ≡ Some i →
    comment_statements n bs ≡ in_line n (words (take 1 (drop i bs))) ∷ []
comment_some n bs i is =
    let at = chosen (nat_lt (position_or_len (λ b. not (is_plain b)) bs) (length bs)) (position_or_len (λ b. not (is_plain b)) bs) i is in
    let it : Other bs i = subst (Other bs) at.1 (other bs at.0) in
    let found = it.so ∙ ap (λ t. cond (not t) (Some it.first) (find (λ b. not (is_plain b)) it.more)) it.is in
    ap (other_byte n) found ∙ ap (λ ws. in_line n ws ∷ [])
    (sym (ap (λ t. words (take 1 t)) it.at ∙ one_word it.first (second ((nat_le 32 it.first && nat_le it.first 126)) (is_blank it.first) it.is)))

pub comment_none : (n : ℕ) (bs : List ℕ) → position (λ b. not (is_plain b)) bs ≡ None → comment_statements n bs ≡ []
comment_none n bs is = ap (other_byte n) (no_other bs (not_chosen _ _ is))
