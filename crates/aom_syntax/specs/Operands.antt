-- The operands of instructions.
use Rattle.std.specs.Prelude.{ℕ, ℤ, Bool, ◌==◌, if◌then◌else◌, List, [], ◌∷◌, Option, Some, None, Result, Ok, Err, codes}
use Rattle.std.specs.Str.{bytes_eq}
use Rattle.aom_text.specs.Numbers.{number_of, number_within, number_signed}
use Rattle.aom_text.specs.declared.number.Number.{Number}
use Rattle.aom_text.specs.declared.fault.AsmFaultKind.{AsmFaultKind}
use Rattle.aom_text.specs.declared.fault.AsmFaultKind.TheVariants.{BadNumber, BadShape}
use Rattle.aom_instructions.specs.declared.instr.Target.{Target}
use Rattle.aom_instructions.specs.declared.instr.Target.TheVariants as targets
use Rattle.aom_syntax.specs.Reading.{◌>>=◌, Reading, seen, word, name, number, in_range}
use Rattle.aom_syntax.specs.Names.{place_of, referred}
use Rattle.aom_syntax.specs.declared.scope.Scope.{Scope}

-- ---- registers, fields, words and entries: a letter and a number

-- a number without a minus, up to a highest
abbrev pub index_of : ℕ → Option Number → Result ℕ AsmFaultKind
index_of highest None = Err BadShape
index_of highest (Some n) = if n.is_negative then Err BadShape else in_range (number_within 0 highest n)

-- the number behind a letter
abbrev pub indexed : ℕ → ℕ → List ℕ → Result ℕ AsmFaultKind
indexed letter highest [] = Err BadShape
indexed letter highest (b ∷ bs) = if b == letter then index_of highest (number_of bs) else Err BadShape

-- a register: r0 to r15, or to r14 where one more is written
abbrev pub register : ℕ → Reading ℕ
register highest = seen (indexed 114 highest) word

-- a register that is r0 where no word is left
abbrev pub last_register : ℕ → Reading ℕ
last_register highest [] = Ok (0, [])
last_register highest (w ∷ ws) = register highest (w ∷ ws)

-- an owning field: f0 to f7
abbrev pub field : Reading ℕ
field = seen (indexed 102 7) word

-- a word field: w0 to w7
abbrev pub word_field : Reading ℕ
word_field = seen (indexed 119 7) word

-- what a call is made on: self, a register, a field, or a cleanup entry c0 to c15
abbrev pub target_of : List ℕ → Result Target AsmFaultKind
target_of [] = Err BadShape
target_of (b ∷ bs) =
    if bytes_eq (b ∷ bs) (codes "self") then Ok targets.This
    else if b == 114 then (indexed 114 15 (b ∷ bs) >>= λ n. Ok (targets.Register n))
    else if b == 102 then (indexed 102 7 (b ∷ bs) >>= λ n. Ok (targets.Field n))
    else (indexed 99 15 (b ∷ bs) >>= λ n. Ok (targets.Entry n))

abbrev pub target : Reading Target
target = seen target_of word

-- ---- numbers

abbrev pub signed_of : Option Number → Result ℤ AsmFaultKind
signed_of None = Err BadNumber
signed_of (Some n) = in_range (number_signed n)

-- a number of 32 bits with its sign
abbrev pub signed : Reading ℤ
signed = seen (λ w. signed_of (number_of w)) word

-- the depth of a loop
abbrev pub depth : Reading ℕ
depth = number 0 3

-- the rounds of a loop
abbrev pub rounds : Reading ℕ
rounds = number 1 65535

-- ---- names

-- a name that is used, of a list
abbrev pub used : Bool → ℕ → List (List ℕ) → Reading ℕ
used is_strict limit names = seen (λ n. referred is_strict limit (place_of n names)) name

abbrev pub class : Scope → Reading ℕ
class scope = used scope.is_strict 256 scope.classes

abbrev pub method : Scope → Reading ℕ
method scope = used scope.is_strict 1024 scope.methods

abbrev pub label : Scope → List (List ℕ) → Reading ℕ
label scope labels = used scope.is_strict 1024 labels
