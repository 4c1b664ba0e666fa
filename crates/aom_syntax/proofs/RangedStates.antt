-- Sets of states and flags of methods, read or usual, are such sets.
use Rattle.std.proofs.lemmas.Bool.Decides.{nat_tests}
use Rattle.std.proofs.Common.{◌≡◌, ℕ, ◌+◌, ◌<◌, ◌≤◌, ◌==◌, Bool, List, [], ◌∷◌, length, Ok, subst, arith}
use Rattle.aom_text.specs.declared.fault.AsmFaultKind.TheVariants.{BadShape}
use Rattle.aom_image.specs.declared.class.ClassKind.{ClassKind}
use Rattle.aom_image.specs.declared.method.Role.{Role}
use Rattle.aom_image.specs.declared.method.States.{States}
use Rattle.aom_syntax.specs.Reading.{giving, seen, took, word}
use Rattle.aom_syntax.specs.Methods.{all_read, all_states, cut_letter, flags_of, letters_of, optional_states, some_of, states_of, default_after, default_before}
use Rattle.aom_syntax.specs.Methods.{default_words}
use Rattle.aom_syntax.specs.declared.keyword.Keyword.{Keyword}
use Rattle.aom_syntax.proofs.Within.{Within, either, giving_within, ok_is, passed, seen_within}

-- ---- sets that are read

abbrev pub AreStates : States → Type 0
AreStates s = s.0 < 64

cut_most : (letter bit : ℕ) (w : List ℕ) → (cut_letter letter bit w).0 ≤ bit
cut_most letter bit [] = omega arith
cut_most letter bit (b ∷ bs) = grind (arith, nat_tests)

six_below : (u i s a o d : ℕ) → u ≤ 1 → i ≤ 2 → s ≤ 4 → a ≤ 8 → o ≤ 16 → d ≤ 32 → u + i + s + a + o + d < 64
six_below u i s a o d hu hi hs ha ho hd = omega arith

letters_below : (w : List ℕ) → (letters_of w).0 < 64
letters_below w = grind arith

read_below : (p : ℕ × List ℕ) (s : States) → p.0 < 64 → all_read p ≡ Ok s → AreStates s
read_below p s below is = subst AreStates (ok_is (record { 0 = p.0 }) s (passed (length p.1 == 0) (Ok (record { 0 = p.0 })) BadShape s is).1) below

states_below : (w : List ℕ) (s : States) → states_of w ≡ Ok s → AreStates s
states_below w s is = grind (arith, nat_tests, ok_is, read_below, letters_below w)

pub states_within : (key : Keyword) (default : ℕ) → default < 64 → Within AreStates (optional_states key default)
states_within key default below = either AreStates (λ ws. (took key ws).0) (λ ws. (took key ws).1) (seen states_of word) (giving (record { 0 = default }))
    (seen_within AreStates states_of word states_below) (giving_within AreStates (record { 0 = default }) below)

-- ---- sets that are not said

pub all_few : (kind : ClassKind) → all_states kind ≤ 11
all_few x = grind arith

some_most : (states all : ℕ) → some_of states all ≤ states
some_most states all = grind (arith, nat_tests)

pub before_below : (role : Role) (all : ℕ) → all ≤ 11 → default_before role all < 64
before_below x all few = grind (arith, nat_tests, some_most 1 all)

pub after_below : (role : Role) (all : ℕ) → all ≤ 11 → default_after role all < 64
after_below x all few = grind (arith, nat_tests, some_most 3 all)

-- ---- flags and words

pub flags_below : (leaves quiet : Bool) → (flags_of leaves quiet).0 < 4
flags_below x y = grind arith

pub words_few : (role : Role) → default_words role ≤ 6
words_few x = grind arith
