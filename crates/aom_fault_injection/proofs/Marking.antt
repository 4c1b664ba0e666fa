-- The times of a transcript, line by line; each is one that a script may have.
use Rattle.std.proofs.Common.{◌≡◌, ◌≤◌, ◌==◌, ◌^◌, ℕ, Bool, true, false, List, [], ◌∷◌, ◌++◌, Option, Some, None, refl, arith}
use Rattle.std.proofs.lemmas.Bool.Decides.{nat_tests}
use Rattle.std.specs.Prelude.{if◌then◌else◌}
use Rattle.std.specs.List.{fold}
use Rattle.std.proofs.lemmas.List.Elements.{All-nil, All-push}
use Rattle.aom_text.specs.Numbers.{number_of, number_within}
use Rattle.aom_text.specs.Text.{lines_of}
use Rattle.aom_text.specs.Words.{words}
use Rattle.aom_text.specs.declared.number.Number.{Number}
use Rattle.aom_fault_injection.specs.Planned.{AreTimes, is_last, marked, time_of_line, time_of_number, time_of_word, time_of_words, times_in}

-- a time that is there is one that a script may have
abbrev IsTime : Option ℕ → Type 0
IsTime None = Unit {0}
IsTime (Some time) = time ≤ 10 ^ 15

within : (low high : ℕ) (n : Number) (k : ℕ) → number_within low high n ≡ Some k → k ≤ high
within low high n k e = grind (arith, nat_tests)

given : (time : Option ℕ) → ((k : ℕ) → time ≡ Some k → k ≤ 10 ^ 15) → IsTime time
given None below = tt
given (Some k) below = below k refl

of_number : (number : Option Number) → IsTime (time_of_number number)
of_number None = tt
of_number (Some number) = given (number_within 0 (10 ^ 15) number) (λ k is. within 0 (10 ^ 15) number k is)

of_word : (word : List ℕ) → IsTime (time_of_word word)
of_word [] = tt
of_word (byte ∷ digits) = go (byte == 64)
  where
    go : (b : Bool) → IsTime (if b then time_of_number (number_of digits) else None)
    go true = of_number (number_of digits)
    go false = tt

of_words : (ws : List (List ℕ)) → IsTime (time_of_words ws)
of_words [] = tt
of_words (word ∷ others) = of_word word

-- one time more
marked_are : (times : List ℕ) (time : Option ℕ) → IsTime time → AreTimes times → AreTimes (marked times time)
marked_are times None is are = are
marked_are times (Some time) is are = go (is_last time times)
  where
    go : (b : Bool) → AreTimes (if b then times else times ++ time ∷ [])
    go true = are
    go false = All-push (λ t. t ≤ 10 ^ 15) times time are is

all_are : (lines : List (List ℕ)) (times : List ℕ) → AreTimes times → AreTimes (fold (λ times line. marked times (time_of_line line)) times lines)
all_are [] times are = are
all_are (line ∷ lines) times are = all_are lines (marked times (time_of_line line)) (marked_are times (time_of_line line) (of_words (words line)) are)

pub times_are : (transcript : List ℕ) → AreTimes (times_in transcript)
times_are transcript = all_are (lines_of transcript) [] (All-nil (λ t. t ≤ 10 ^ 15))
