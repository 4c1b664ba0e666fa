-- The names of a text, in the order in which they are declared.
use Rattle.std.specs.Prelude.{◌≡◌, ℕ, Bool, true, false, List, Option, Some, None, Result, Ok, Err, nat_lt, if◌then◌else◌}
use Rattle.std.specs.List.{position}
use Rattle.std.specs.Str.{bytes_eq}
use Rattle.std.specs.Borrow.{Bor}
use Rattle.std.specs.Ordering.{nat_cmp}
use Rattle.std.specs.Cmp.Lexicographic.{slice_cmp}
use Rattle.std.specs.BTreeMap.{BTreeMap, get_by}
use Rattle.aom_text.specs.declared.fault.AsmFaultKind.{AsmFaultKind}
use Rattle.aom_text.specs.declared.fault.AsmFaultKind.TheVariants.{UnknownName}

-- where a name is declared first
abbrev pub place_of : List ℕ → List (List ℕ) → Option ℕ
place_of name names = position (λ n. bytes_eq n name) names

-- a table of the names has just their first places
pub record FindsFirst (places : BTreeMap (Bor (List ℕ)) ℕ) (names : List (List ℕ)) : Type 0 where
  pub place : (name : List ℕ) → get_by (λ k. slice_cmp nat_cmp name k.now) places ≡ place_of name names

-- a name that is declared nowhere: a fault, or where names are not told apart yet, the number 0
abbrev pub nowhere : Bool → Result ℕ AsmFaultKind
nowhere true = Err UnknownName
nowhere false = Ok 0

-- the number of a name that is used, below a limit
abbrev pub referred : Bool → ℕ → Option ℕ → Result ℕ AsmFaultKind
referred is_strict limit None = nowhere is_strict
referred is_strict limit (Some n) = if nat_lt n limit then Ok n else nowhere is_strict
