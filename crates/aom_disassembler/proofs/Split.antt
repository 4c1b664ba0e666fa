-- A text of lines of words splits into just those statements.
use Rattle.std.proofs.Common.{◌≡◌, ◌∙◌, refl, sym, ap, ℕ, ◌+◌, ◌==◌, ◌||◌, Bool, true, false, cond, List, [], ◌∷◌, ◌++◌, append_assoc, filter, get_or, length}
use Rattle.std.proofs.Common.{map, take, arith}
use Rattle.std.specs.List.{All, after_first, before_first, list_all, position_or_len, slice_split}
use Rattle.std.proofs.lemmas.Bool.{and_from, ne_eqb, true≢false}
use Rattle.std.proofs.lemmas.List.{append-nil, drop_all, take_all}
use Rattle.std.proofs.lemmas.List.Folds.{list_all-append}
use Rattle.std.proofs.lemmas.List.Splits.{slice_split_at, slice_split_none}
use Rattle.std.proofs.lemmas.List.Sums.{AllPass-from_list_all, list_all-from_AllPass, position_or_len_is}
use Rattle.aom_text.specs.Text.{has_words, in_line, line_statements, parted, statements, statements_from, true_lines, worded}
use Rattle.aom_text.specs.Words.{has_bytes, is_blank, words}
use Rattle.aom_image.specs.Image.{Image}
use Rattle.aom_image.specs.WellFormed.{WellFormed}
use Rattle.aom_disassembler.specs.Listing.{lines_text, listing, listing_text, placed}
use Rattle.aom_disassembler.specs.Text.{behind, parted_by}
use Rattle.aom_disassembler.proofs.PlainWords.{AreWords, is_word_byte}
use Rattle.aom_disassembler.proofs.Stated.{AreStated, IsStated, listing_is_stated}

-- ---- bytes

-- a byte of a word, or a space
is_line_byte : ℕ → Bool
is_line_byte b = is_word_byte b || b == 32

-- another byte is none of them
differs : (test : ℕ → Bool) (c b : ℕ) → test c ≡ false → test b ≡ true → (b == c) ≡ false
differs test c b fails passes = ne_eqb b c (λ same. true≢false (sym passes ∙ ap test same ∙ fails))

differ : (test : ℕ → Bool) (c : ℕ) → test c ≡ false → (bs : List ℕ) → list_all test bs ≡ true → All (λ b. (b == c) ≡ false) bs
differ test c fails bs are k d within = differs test c (get_or bs k d) fails (AllPass-from_list_all test bs are k d within)

not_blank : (b : ℕ) → is_word_byte b ≡ true → is_blank b ≡ false
not_blank b is = ap (λ t. t || b == 9 || b == 13) (differs is_word_byte 32 b refl is) ∙ ap (λ t. t || b == 13) (differs is_word_byte 9 b refl is)
    ∙ differs is_word_byte 13 b refl is

word_in_line : (w : List ℕ) → list_all is_word_byte w ≡ true → list_all is_line_byte w ≡ true
unfolding is_line_byte
word_in_line w are = list_all-from_AllPass is_line_byte w (λ k d within. ap (λ t. t || get_or w k d == 32) (AllPass-from_list_all is_word_byte w are k d within))

behind_in_line : (ws : List (List ℕ)) → AreWords ws → list_all is_line_byte (behind 32 ws) ≡ true
unfolding is_line_byte
behind_in_line [] are = refl
behind_in_line (w ∷ ws) are = list_all-append is_line_byte w (behind 32 ws) ∙ and_from _ _ (word_in_line w are.0.bytes) (behind_in_line ws are.1)

in_line_bytes : (ws : List (List ℕ)) → AreWords ws → list_all is_line_byte (parted_by 32 ws) ≡ true
in_line_bytes [] are = refl
in_line_bytes (w ∷ ws) are = list_all-append is_line_byte w (behind 32 ws) ∙ and_from _ _ (word_in_line w are.0.bytes) (behind_in_line ws are.1)

-- ---- words

split_words : (w : List ℕ) (ws : List (List ℕ)) → AreWords (w ∷ ws) → slice_split is_blank (parted_by 32 (w ∷ ws)) ≡ w ∷ ws
split_words w [] are = ap (λ t. slice_split is_blank t) (append-nil w)
    ∙ slice_split_none is_blank w (λ k d within. not_blank (get_or w k d) (AllPass-from_list_all is_word_byte w are.0.bytes k d within))
split_words w (v ∷ vs) are = slice_split_at is_blank w 32 (parted_by 32 (v ∷ vs))
    (λ k d within. not_blank (get_or w k d) (AllPass-from_list_all is_word_byte w are.0.bytes k d within)) refl ∙ ap (λ t. w ∷ t) (split_words v vs are.1)

kept : (ws : List (List ℕ)) → AreWords ws → filter has_bytes ws ≡ ws
kept [] are = refl
kept (w ∷ ws) are = ap (λ b. cond b (w ∷ filter has_bytes ws) (filter has_bytes ws)) are.0.some ∙ ap (λ t. w ∷ t) (kept ws are.1)

words_again : (ws : List (List ℕ)) → AreWords ws → words (parted_by 32 ws) ≡ ws
words_again [] are = refl
words_again (w ∷ ws) are = ap (λ t. filter has_bytes t) (split_words w ws are) ∙ kept (w ∷ ws) are

-- ---- a line

no_mark : (bs : List ℕ) → list_all is_line_byte bs ≡ true → position_or_len (λ b. b == 35) bs ≡ length bs
unfolding is_line_byte
no_mark bs are = position_or_len_is (λ b. b == 35) bs (length bs) 0 (omega arith) (λ k within. differ is_line_byte 35 refl bs are k 0 within)
    (λ past. let never : ⊥ = omega (arith, past) in absurd never)

all_code : (bs : List ℕ) → list_all is_line_byte bs ≡ true → before_first (λ b. b == 35) bs ≡ bs
all_code bs are = ap (λ n. take n bs) (no_mark bs are) ∙ take_all (length bs) bs (omega arith)

no_comment : (bs : List ℕ) → list_all is_line_byte bs ≡ true → after_first (λ b. b == 35) bs ≡ []
no_comment bs are = drop_all (position_or_len (λ b. b == 35) bs + 1) bs (omega (arith, no_mark bs are))

one_part : (bs : List ℕ) → list_all is_line_byte bs ≡ true → slice_split (λ b. b == 59) bs ≡ bs ∷ []
unfolding is_line_byte
one_part bs are = slice_split_none (λ b. b == 59) bs (differ is_line_byte 59 refl bs are)

one_worded : (ws : List (List ℕ)) → IsStated ws → worded (parted_by 32 ws) ≡ ws ∷ []
one_worded ws is = ap (λ parts. filter has_words (map words parts)) (one_part (parted_by 32 ws) (in_line_bytes ws is.words))
    ∙ ap (λ t. filter has_words (t ∷ [])) (words_again ws is.words) ∙ ap (λ b. cond b (ws ∷ []) []) is.some

one_statement : (number : ℕ) (ws : List (List ℕ)) → IsStated ws → line_statements number (parted_by 32 ws) ≡ in_line number ws ∷ []
one_statement number ws is =
    let bytes : list_all is_line_byte (parted_by 32 ws) ≡ true = in_line_bytes ws is.words in
    ap (λ code. parted number code (after_first (λ b. b == 35) (parted_by 32 ws))) (all_code (parted_by 32 ws) bytes) ∙ ap (λ comment. parted number
    (parted_by 32 ws) comment) (no_comment (parted_by 32 ws) bytes) ∙ ap (λ parts. map (in_line number) parts ++ []) (one_worded ws is)

-- ---- lines

split_lines : (wss : List (List (List ℕ))) → AreStated wss → slice_split (λ b. b == 10) (lines_text wss) ≡ map (parted_by 32) wss ++ [] ∷ []
unfolding is_line_byte
split_lines [] are = refl
split_lines (ws ∷ wss) are = ap (λ t. slice_split (λ b. b == 10) t) (append_assoc (parted_by 32 ws) (10 ∷ []) (lines_text wss))
    ∙ slice_split_at (λ b. b == 10) (parted_by 32 ws) 10 (lines_text wss) (differ is_line_byte 10 refl (parted_by 32 ws) (in_line_bytes ws are.0.words)) refl
    ∙ ap (λ t. parted_by 32 ws ∷ t) (split_lines wss are.1)

ended_lines : (parts : List (List ℕ)) → true_lines (parts ++ [] ∷ []) ≡ parts
ended_lines [] = refl
ended_lines (p ∷ []) = refl
ended_lines (p ∷ q ∷ parts) = ap (λ t. p ∷ t) (ended_lines (q ∷ parts))

stated_from : (number : ℕ) (wss : List (List (List ℕ))) → AreStated wss → statements_from number (map (parted_by 32) wss) ≡ placed in_line number wss
stated_from number [] are = refl
stated_from number (ws ∷ wss) are = ap (λ t. t ++ statements_from (number + 1) (map (parted_by 32) wss)) (one_statement number ws are.0)
    ∙ ap (λ t. in_line number ws ∷ t) (stated_from (number + 1) wss are.1)

pub lines_split : (wss : List (List (List ℕ))) → AreStated wss → statements (lines_text wss) ≡ placed in_line 1 wss
lines_split wss are = ap (λ parts. statements_from 1 (true_lines parts)) (split_lines wss are)
    ∙ ap (λ parts. statements_from 1 parts) (ended_lines (map (parted_by 32) wss)) ∙ stated_from 1 wss are

pub listing_splits : (i : Image) → WellFormed i → statements (listing_text i) ≡ placed in_line 1 (listing i)
listing_splits i fits = lines_split (listing i) (listing_is_stated i fits)

-- the words of statements that stand in lines
pub words_placed : (number : ℕ) (wss : List (List (List ℕ))) → map (λ s. s.words) (placed in_line number wss) ≡ wss
words_placed number [] = refl
words_placed number (ws ∷ wss) = ap (λ t. ws ∷ t) (words_placed (number + 1) wss)
