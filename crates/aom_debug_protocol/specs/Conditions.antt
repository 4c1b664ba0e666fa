-- The conditions of breakpoints: when one holds, how one is spelled, and which one words say.
use Rattle.std.specs.Prelude.{ℕ, ℤ, Bool, not, ◌==◌, int_lt, if◌then◌else◌, List, [], ◌∷◌, ◌++◌, codes, decimal, Option, Some, None, Result, Ok, Err}
use Rattle.std.specs.Fmt.{signed_decimal}
use Rattle.std.specs.Ordering.{int_eq}
use Rattle.std.specs.Str.{bytes_eq}
use Rattle.aom_text.specs.Numbers.{number_of, number_signed}
use Rattle.aom_text.specs.declared.number.Number.{Number}
use Rattle.aom_debug_protocol.specs.Ways.{up_to}
use Rattle.aom_debug_protocol.specs.declared.condition.Comparison.{Comparison}
use Rattle.aom_debug_protocol.specs.declared.condition.Comparison.TheVariants.{Equal, Unequal, Less}
use Rattle.aom_debug_protocol.specs.declared.condition.Condition.{Condition}
use Rattle.aom_debug_protocol.specs.declared.condition.Condition.TheVariants.{Always, Where}
use Rattle.aom_debug_protocol.specs.declared.fault.DebugFault.{DebugFault}
use Rattle.aom_debug_protocol.specs.declared.fault.DebugFault.TheVariants.{BadCommand}

-- whether it holds of two words
abbrev pub holds : Comparison → ℤ → ℤ → Bool
holds Equal a b = int_eq a b
holds Unequal a b = not (int_eq a b)
holds Less a b = int_lt a b

-- ---- how they are spelled

-- with a space on each side
abbrev pub comparison_text : Comparison → List ℕ
comparison_text Equal = codes " == "
comparison_text Unequal = codes " != "
comparison_text Less = codes " < "

-- behind a place
abbrev pub condition_text : Condition → List ℕ
condition_text Always = []
condition_text (Where register comparison word) = codes " if r" ++ decimal register ++ comparison_text comparison ++ signed_decimal word

-- ---- what words say

abbrev pub comparison_named : List ℕ → Option Comparison
comparison_named sign =
    if bytes_eq sign (codes "==") then Some Equal
    else if bytes_eq sign (codes "!=") then Some Unequal
    else if bytes_eq sign (codes "<") then Some Less
    else None

-- `r` and a number from 0 to 15
abbrev pub register_said : List ℕ → Option ℕ
register_said [] = None
register_said (b ∷ digits) = if b == 114 then up_to 15 (number_of digits) else None

-- a number of 32 bits with its sign
abbrev pub word_said : Option Number → Option ℤ
word_said None = None
word_said (Some n) = number_signed n

abbrev pub condition_by : Option ℕ → Option Comparison → Option ℤ → Option Condition
condition_by (Some register) (Some comparison) (Some word) = Some (Where register comparison word)
condition_by _ _ _ = None

-- `rN == K`, `rN != K` or `rN < K`
abbrev pub comparison_said : List (List ℕ) → Option Condition
comparison_said (register ∷ sign ∷ word ∷ []) = condition_by (register_said register) (comparison_named sign) (word_said (number_of word))
comparison_said _ = None

-- a condition, or none that there is
abbrev pub one_condition : Option Condition → Result Condition DebugFault
one_condition None = Err BadCommand
one_condition (Some condition) = Ok condition

-- behind a place: a condition behind `if`, or nothing
abbrev pub condition_said : List (List ℕ) → Result Condition DebugFault
condition_said [] = Ok Always
condition_said (word ∷ others) = if bytes_eq word (codes "if") then one_condition (comparison_said others) else Err BadCommand
