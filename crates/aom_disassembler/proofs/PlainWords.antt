-- The words of a listing: each has a byte, and only bytes that part neither words nor statements.
use Rattle.std.proofs.Common.{◌≡◌, ◌∙◌, refl, sym, ℕ, zero, suc, ℤ, pos, negsuc, ◌<◌, ◌/◌, ◌%◌, ◌==◌, ◌&&◌, ◌||◌, Bool, true, false, List, [], ◌∷◌, ◌++◌, map}
use Rattle.std.proofs.Common.{arith}
use Rattle.std.specs.Prelude.{nat_le, if◌then◌else◌}
use Rattle.std.specs.Fmt.{decimal, signed_decimal, digits, digits_onto, digit_glyph}
use Rattle.std.specs.List.{list_all}
use Rattle.std.proofs.lemmas.Bool.{agree_below_at, and_from, true≢false}
use Rattle.std.proofs.lemmas.List.Folds.{list_all-append}
use Rattle.aom_text.specs.Words.{has_bytes}
use Rattle.aom_syntax.specs.Keywords.{keyword_text}
use Rattle.aom_instructions.specs.Mnemonics.{mnemonic_text}
use Rattle.aom_syntax.specs.declared.keyword.Keyword.{Keyword}
use Rattle.aom_syntax.specs.declared.keyword.Keyword.TheVariants as k
use Rattle.aom_instructions.specs.declared.mnemonic.Mnemonic.{Mnemonic}
use Rattle.aom_instructions.specs.declared.mnemonic.Mnemonic.TheVariants as m
use Rattle.aom_disassembler.specs.Text.{behind, list_word}

-- a byte from a comma to a colon, or from A to z
abbrev pub is_word_byte : ℕ → Bool
is_word_byte b = (nat_le 44 b && nat_le b 58) || (nat_le 65 b && nat_le b 122)

pub record IsWord (w : List ℕ) : Type 0 where
  pub some : has_bytes w ≡ true
  pub bytes : list_all is_word_byte w ≡ true

-- each of them is a word
abbrev pub AreWords : List (List ℕ) → Type 0
AreWords [] = Unit {0}
AreWords (w ∷ ws) = IsWord w × AreWords ws

pub words_append : (ws vs : List (List ℕ)) → AreWords ws → AreWords vs → AreWords (ws ++ vs)
words_append [] vs first later = later
words_append (w ∷ ws) vs first later = (first.0, words_append ws vs first.1 later)

-- ---- numbers

glyph_is_byte : (d : ℕ) → d < 10 → is_word_byte (digit_glyph false d) ≡ true
glyph_is_byte d small = agree_below_at (λ n. is_word_byte (digit_glyph false n)) (λ n. true) 10 d refl small

bytes_onto : (count n : ℕ) (acc : List ℕ) → list_all is_word_byte acc ≡ true → list_all is_word_byte (digits_onto count 10 false n acc) ≡ true
bytes_onto zero n acc are = are
bytes_onto (suc count) n acc are =
    let glyph : ℕ = digit_glyph false (n % 10) in
    let more : list_all is_word_byte (glyph ∷ acc) ≡ true = and_from _ _ (glyph_is_byte (n % 10) (omega arith)) are in
    elim (n / 10 == 0) as (λ b. list_all is_word_byte (if b then glyph ∷ acc else digits_onto count 10 false (n / 10) (glyph ∷ acc)) ≡ true) [
      | true ↦ more
      | false ↦ bytes_onto count (n / 10) (glyph ∷ acc) more
    ]

some_onto : (count n b : ℕ) (acc : List ℕ) → has_bytes (digits_onto count 10 false n (b ∷ acc)) ≡ true
some_onto zero n b acc = refl
some_onto (suc count) n b acc =
    let glyph : ℕ = digit_glyph false (n % 10) in
    elim (n / 10 == 0) as (λ t. has_bytes (if t then glyph ∷ b ∷ acc else digits_onto count 10 false (n / 10) (glyph ∷ b ∷ acc)) ≡ true) [
      | true ↦ refl
      | false ↦ some_onto count (n / 10) glyph (b ∷ acc)
    ]

some_digits : (count n : ℕ) → has_bytes (digits_onto (suc count) 10 false n []) ≡ true
some_digits count n =
    let glyph : ℕ = digit_glyph false (n % 10) in
    elim (n / 10 == 0) as (λ t. has_bytes (if t then glyph ∷ [] else digits_onto count 10 false (n / 10) (glyph ∷ [])) ≡ true) [
      | true ↦ refl
      | false ↦ some_onto count (n / 10) glyph []
    ]

pub decimal_is_word : (n : ℕ) → IsWord (decimal n)
unfolding digits
decimal_is_word n = record { some = some_digits 63 n; bytes = bytes_onto 64 n [] refl }

-- a letter and a number
pub name_is_word : (letter n : ℕ) → is_word_byte letter ≡ true → IsWord (letter ∷ decimal n)
name_is_word letter n is = record { some = refl; bytes = and_from _ _ is (decimal_is_word n).bytes }

pub signed_is_word : (z : ℤ) → IsWord (signed_decimal z)
signed_is_word (pos n) = decimal_is_word n
signed_is_word (negsuc n) = name_is_word 45 (suc n) refl

-- ---- lists

behind_bytes : (byte : ℕ) → is_word_byte byte ≡ true → (ps : List (List ℕ)) → AreWords ps → list_all is_word_byte (behind byte ps) ≡ true
behind_bytes byte is [] are = refl
behind_bytes byte is (p ∷ ps) are = and_from _ _ is (list_all-append is_word_byte p (behind byte ps) ∙ and_from _ _ are.0.bytes (behind_bytes byte is ps are.1))

some_append : (xs ys : List ℕ) → has_bytes xs ≡ true → has_bytes (xs ++ ys) ≡ true
some_append (x ∷ xs) ys some = refl
some_append [] ys some = elim (true≢false (sym some)) [ ]

pub list_is_word : (ps : List (List ℕ)) → AreWords ps → IsWord (list_word ps)
list_is_word [] are = record { some = refl; bytes = refl }
list_is_word (p ∷ ps) are =
    record { some = some_append p (behind 44 ps) are.0.some; bytes = list_all-append is_word_byte p (behind 44 ps) ∙ and_from _ _ are.0.bytes (behind_bytes 44 refl ps are.1) }

pub map_words : {X : Type 0} (f : X → List ℕ) → ((x : X) → IsWord (f x)) → (xs : List X) → AreWords (map f xs)
map_words f is [] = tt
map_words f is (x ∷ xs) = (is x, map_words f is xs)

-- ---- words of the language and mnemonics

pub keyword_is_word : (key : Keyword) → IsWord (keyword_text key)
keyword_is_word k.Image = record { some = refl; bytes = refl }
keyword_is_word k.Version = record { some = refl; bytes = refl }
keyword_is_word k.Cells = record { some = refl; bytes = refl }
keyword_is_word k.Messages = record { some = refl; bytes = refl }
keyword_is_word k.Natives = record { some = refl; bytes = refl }
keyword_is_word k.Budget = record { some = refl; bytes = refl }
keyword_is_word k.Root = record { some = refl; bytes = refl }
keyword_is_word k.Class = record { some = refl; bytes = refl }
keyword_is_word k.Plain = record { some = refl; bytes = refl }
keyword_is_word k.Session = record { some = refl; bytes = refl }
keyword_is_word k.Active = record { some = refl; bytes = refl }
keyword_is_word k.Timer = record { some = refl; bytes = refl }
keyword_is_word k.Native = record { some = refl; bytes = refl }
keyword_is_word k.Server = record { some = refl; bytes = refl }
keyword_is_word k.Max = record { some = refl; bytes = refl }
keyword_is_word k.Words = record { some = refl; bytes = refl }
keyword_is_word k.Own = record { some = refl; bytes = refl }
keyword_is_word k.From = record { some = refl; bytes = refl }
keyword_is_word k.Method = record { some = refl; bytes = refl }
keyword_is_word k.End = record { some = refl; bytes = refl }
keyword_is_word k.Do = record { some = refl; bytes = refl }
keyword_is_word k.Main = record { some = refl; bytes = refl }
keyword_is_word k.Construct = record { some = refl; bytes = refl }
keyword_is_word k.Destruct = record { some = refl; bytes = refl }
keyword_is_word k.Run = record { some = refl; bytes = refl }
keyword_is_word k.Cancel = record { some = refl; bytes = refl }
keyword_is_word k.Error = record { some = refl; bytes = refl }
keyword_is_word k.Accept = record { some = refl; bytes = refl }
keyword_is_word k.Service = record { some = refl; bytes = refl }
keyword_is_word k.Undo = record { some = refl; bytes = refl }
keyword_is_word k.Of = record { some = refl; bytes = refl }
keyword_is_word k.Over = record { some = refl; bytes = refl }
keyword_is_word k.Leaves = record { some = refl; bytes = refl }
keyword_is_word k.Quiet = record { some = refl; bytes = refl }
keyword_is_word k.In = record { some = refl; bytes = refl }
keyword_is_word k.Out = record { some = refl; bytes = refl }
keyword_is_word k.Args = record { some = refl; bytes = refl }
keyword_is_word k.Gives = record { some = refl; bytes = refl }
keyword_is_word k.Nothing = record { some = refl; bytes = refl }
keyword_is_word k.Word = record { some = refl; bytes = refl }
keyword_is_word k.Maybe = record { some = refl; bytes = refl }
keyword_is_word k.Left = record { some = refl; bytes = refl }
keyword_is_word k.This = record { some = refl; bytes = refl }
keyword_is_word k.Message = record { some = refl; bytes = refl }
keyword_is_word k.Token = record { some = refl; bytes = refl }

pub mnemonic_is_word : (mnemonic : Mnemonic) → IsWord (mnemonic_text mnemonic)
mnemonic_is_word m.Sub = record { some = refl; bytes = refl }
mnemonic_is_word _ = record { some = refl; bytes = refl }
