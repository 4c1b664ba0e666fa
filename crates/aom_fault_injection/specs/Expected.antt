-- What is asked of a call of `explore` beside its tries, and which ends of runs are expected.
use Rattle.std.specs.Prelude.{ℕ, ℤ, pos, ◌==◌, ◌&&◌, ◌||◌, Bool, true, false, not, if◌then◌else◌, List, [], ◌∷◌, length, codes, Option, Some, None}
use Rattle.std.specs.List.{list_any}
use Rattle.std.specs.Ordering.{int_eq}
use Rattle.std.specs.Str.{bytes_eq}
use Rattle.aom_text.specs.Numbers.{number_of, number_signed, number_within}
use Rattle.aom_text.specs.Words.{words}
use Rattle.aom_text.specs.declared.number.Number.{Number}
use Rattle.aom_transcript.specs.declared.line.Ending.{Ending}
use Rattle.aom_transcript.specs.declared.line.Ending.TheVariants as endings
use Rattle.aom_fault_injection.specs.Planned.{asks_more}
use Rattle.aom_fault_injection.specs.declared.expected.ExpectedEnding.{ExpectedEnding}
use Rattle.aom_fault_injection.specs.declared.expected.ExpectedEnding.TheVariants.{Stopped, Waiting, Left, Limit, Error, LastLine}
use Rattle.aom_fault_injection.specs.declared.options.ExploreOptions.{ExploreOptions}
use Rattle.aom_fault_injection.specs.declared.tries.Tries.{Tries}

-- ---- what is asked for

-- the tries, whether the run as it is is told too, and which ends are expected
pub record Exploration : Type 0 where
  pub tries : Tries
  pub base : Bool
  pub expected : List ExpectedEnding

abbrev pub exploration_of : ExploreOptions → Exploration
exploration_of options = record { tries = options.tries; base = options.base; expected = options.expected.now }

-- the tries alone
abbrev pub tries_alone : Tries → Exploration
tries_alone tries = record { tries = tries; base = false; expected = [] }

-- ends are judged where some are expected
abbrev pub is_judged : List ExpectedEnding → Bool
is_judged expected = not (length expected == 0)

-- what was counted is told
abbrev pub tells_counts : Exploration → Bool
tells_counts asked = asks_more asked.tries || is_judged asked.expected

-- ---- which ends are expected

-- the two are one
abbrev pub is_same : Ending → Ending → Bool
is_same endings.Stopped endings.Stopped = true
is_same endings.Waiting endings.Waiting = true
is_same (endings.MainLeft code) (endings.MainLeft other) = int_eq code other
is_same endings.Limit endings.Limit = true
is_same (endings.Error answer) (endings.Error other) = int_eq answer other
is_same _ _ = false

-- a run that ended so, with so many cells left, is expected by this
abbrev pub fits : ExpectedEnding → Ending → (cells : ℕ) → Bool
fits Stopped endings.Stopped cells = true
fits Waiting endings.Waiting cells = true
fits Left (endings.MainLeft code) cells = true
fits Limit endings.Limit cells = true
fits Error (endings.Error answer) cells = true
fits (LastLine other count) ending cells = is_same other ending && count == cells
fits _ _ cells = false

-- some ends are expected, and this is none of them
abbrev pub is_unexpected : List ExpectedEnding → Ending → (cells : ℕ) → Bool
is_unexpected expected ending cells = is_judged expected && not (list_any (λ one. fits one ending cells) expected)

-- what stands at the end of the line of such a run
abbrev pub mark_text : List ExpectedEnding → Ending → (cells : ℕ) → List ℕ
mark_text expected ending cells = if is_unexpected expected ending cells then codes " unexpected" else []

-- ---- how words say it

-- an ending that one word says
abbrev pub ending_named : List ℕ → Option Ending
ending_named word =
    if bytes_eq word (codes "stopped") then Some endings.Stopped
    else if bytes_eq word (codes "waiting") then Some endings.Waiting
    else if bytes_eq word (codes "limit") then Some endings.Limit
    else None

-- a number of 32 bits with its sign
abbrev pub code_said : Option Number → Option ℤ
code_said None = None
code_said (Some n) = number_signed n

-- an ending that a word and a code say. No error is 0
abbrev pub ending_coded : List ℕ → Option ℤ → Option Ending
ending_coded word None = None
ending_coded word (Some code) =
    if bytes_eq word (codes "left") then Some (endings.MainLeft code)
    else if bytes_eq word (codes "error") && not (int_eq code (pos 0)) then Some (endings.Error code)
    else None

-- as many cells as an image may have
abbrev pub cells_said : Option Number → Option ℕ
cells_said None = None
cells_said (Some n) = number_within 0 4096 n

-- an ending with the cells that are left
abbrev pub last_line : Option Ending → List ℕ → Option ℕ → Option ExpectedEnding
last_line (Some ending) word (Some count) = if bytes_eq word (codes "cells") then Some (LastLine ending count) else None
last_line _ _ _ = None

-- each run that ended so
abbrev pub each_named : List ℕ → Option ExpectedEnding
each_named word =
    if bytes_eq word (codes "stopped") then Some Stopped
    else if bytes_eq word (codes "waiting") then Some Waiting
    else if bytes_eq word (codes "left") then Some Left
    else if bytes_eq word (codes "limit") then Some Limit
    else if bytes_eq word (codes "error") then Some Error
    else None

-- a word of the closing line, or the words of a last line behind its `end`
abbrev pub expected_by : List (List ℕ) → Option ExpectedEnding
expected_by (word ∷ []) = each_named word
expected_by (word ∷ cells ∷ count ∷ []) = last_line (ending_named word) cells (cells_said (number_of count))
expected_by (word ∷ code ∷ cells ∷ count ∷ []) = last_line (ending_coded word (code_said (number_of code))) cells (cells_said (number_of count))
expected_by _ = None

abbrev pub expected_said : List ℕ → Option ExpectedEnding
expected_said text = expected_by (words text)
