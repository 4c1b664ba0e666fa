-- The lines of a text while it comes: by how a text splits that stands behind another.
use Rattle.std.proofs.Common.{◌≡◌, ◌∙◌, ◌+◌, ℕ, Bool, true, false, cond, List, [], ◌∷◌, ◌++◌, length, refl, sym, ap, arith, append-nil}
use Rattle.std.specs.List.{count_by, onto_first, slice_split}
use Rattle.std.proofs.lemmas.List.Splits.{length-slice_split, slice_split-cons_no, slice_split-cons_yes}
use Rattle.aom_text.specs.Words.{has_bytes}
use Rattle.aom_text.specs.Text.{true_lines}

-- ---- the parts of a text behind another

-- parts, the first of which goes on from another
abbrev glued : {X : Type 0} → List X → List (List X) → List (List X)
glued a [] = []
glued a (b ∷ more) = (a ++ b) ∷ more

abbrev joined : {X : Type 0} → List (List X) → List (List X) → List (List X)
joined [] qs = qs
joined (a ∷ []) qs = glued a qs
joined (a ∷ b ∷ ps) qs = a ∷ joined (b ∷ ps) qs

glued_nothing : {X : Type 0} (qs : List (List X)) → glued [] qs ≡ qs
glued_nothing [] = refl
glued_nothing (b ∷ more) = refl

joined_last : {X : Type 0} (ls : List (List X)) (r : List X) (qs : List (List X)) → joined (ls ++ r ∷ []) qs ≡ ls ++ glued r qs
joined_last [] r qs = refl
joined_last (l ∷ []) r qs = refl
joined_last (l ∷ k ∷ ls) r qs = ap (λ t. l ∷ t) (joined_last (k ∷ ls) r qs)

some_of : {A : Type 0} (xs : List A) (n : ℕ) → length xs ≡ n + 1 → (h : A) × (t : List A) × (xs ≡ h ∷ t)
some_of [] n is = absurd (omega arith)
some_of (h ∷ t) n is = (h, t, refl)

module _ {X : Type 0} (p : X → Bool) where
  pub some_parts : (xs : List X) → (h : List X) × (t : List (List X)) × (slice_split p xs ≡ h ∷ t)
  some_parts xs = some_of (slice_split p xs) (count_by p xs) (length-slice_split p xs)

  joined_first : (x : X) (hs qs : List (List X)) → (h : List X) × (t : List (List X)) × (hs ≡ h ∷ t) →
      (k : List X) × (m : List (List X)) × (qs ≡ k ∷ m) → onto_first x (joined hs qs) ≡ joined (onto_first x hs) qs
  joined_first x hs qs (h, [], is) (k, m, be) = rw (is, be) refl
  joined_first x hs qs (h, a ∷ t, is) some = rw is refl

  joined_more : (hs qs : List (List X)) → (h : List X) × (t : List (List X)) × (hs ≡ h ∷ t) → [] ∷ joined hs qs ≡ joined ([] ∷ hs) qs
  joined_more hs qs (h, t, is) = rw is refl

  pub split_both : (xs ys : List X) → slice_split p (xs ++ ys) ≡ joined (slice_split p xs) (slice_split p ys)
  split_both [] ys = sym (glued_nothing (slice_split p ys))
  split_both (x ∷ xs) ys = go (p x) refl (split_both xs ys)
    where
      go : (b : Bool) → p x ≡ b → slice_split p (xs ++ ys) ≡ joined (slice_split p xs) (slice_split p ys) →
          slice_split p (x ∷ (xs ++ ys)) ≡ joined (slice_split p (x ∷ xs)) (slice_split p ys)
      go true is both = slice_split-cons_yes p x (xs ++ ys) is ∙ ap (λ t. [] ∷ t) both ∙ joined_more (slice_split p xs) (slice_split p ys) (some_parts xs)
          ∙ ap (λ t. joined t (slice_split p ys)) (sym (slice_split-cons_yes p x xs is))
      go false is both = slice_split-cons_no p x (xs ++ ys) is ∙ ap (onto_first x) both ∙ joined_first x (slice_split p xs) (slice_split p ys) (some_parts xs)
          (some_parts ys) ∙ ap (λ t. joined t (slice_split p ys)) (sym (slice_split-cons_no p x xs is))

  module _ (text : List X) (lines : List (List X)) (rest : List X) (is : slice_split p text ≡ lines ++ rest ∷ []) where
    -- one byte more in the same line
    pub split_on : (b : X) → p b ≡ false → slice_split p (text ++ b ∷ []) ≡ lines ++ (rest ++ b ∷ []) ∷ []
    split_on b not = split_both text (b ∷ []) ∙ ap (λ t. joined t (slice_split p (b ∷ []))) is ∙ joined_last lines rest (slice_split p (b ∷ []))
        ∙ ap (λ t. lines ++ glued rest t) (slice_split-cons_no p b [] not)

    -- the end of a line, and what comes behind it
    pub split_end : (b : X) (more : List X) → p b ≡ true → slice_split p (text ++ b ∷ more) ≡ lines ++ rest ∷ slice_split p more
    split_end b more feeds = split_both text (b ∷ more) ∙ ap (λ t. joined t (slice_split p (b ∷ more))) is ∙ joined_last lines rest (slice_split p (b ∷ more))
        ∙ ap (λ t. lines ++ glued rest t) (slice_split-cons_yes p b more feeds) ∙ ap (λ t. lines ++ t ∷ slice_split p more) (append-nil rest)

-- ---- lines

-- the last line counts where it has bytes
pub last_line : (lines : List (List ℕ)) (rest : List ℕ) → true_lines (lines ++ rest ∷ []) ≡ lines ++ cond (has_bytes rest) (rest ∷ []) []
last_line [] rest = refl
last_line (l ∷ []) rest = refl
last_line (l ∷ k ∷ ls) rest = ap (λ t. l ∷ t) (last_line (k ∷ ls) rest)

-- each other line does
pub lines_before : (lines : List (List ℕ)) (line h : List ℕ) (t : List (List ℕ)) → true_lines (lines ++ line ∷ h ∷ t) ≡ lines ++ line ∷ true_lines (h ∷ t)
lines_before [] line h t = refl
lines_before (l ∷ []) line h t = refl
lines_before (l ∷ k ∷ ls) line h t = ap (λ u. l ∷ u) (lines_before (k ∷ ls) line h t)
