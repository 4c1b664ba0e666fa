-- Reading the words of a statement from the left: a value and the words that are left, or the first fault.
use Rattle.std.specs.Prelude.{◌≡◌, ◌≢◌, ℕ, Bool, true, false, if◌then◌else◌, List, [], ◌∷◌, Option, Some, None, Result, Ok, Err}
use Rattle.std.specs.List.{list_all}
use Rattle.std.specs.Str.{bytes_eq}
use Rattle.aom_text.specs.Words.{is_plain}
use Rattle.aom_text.specs.Names.{is_name}
use Rattle.aom_text.specs.Numbers.{number_of, number_within}
use Rattle.aom_text.specs.declared.fault.AsmFaultKind.{AsmFaultKind}
use Rattle.aom_text.specs.declared.fault.AsmFaultKind.TheVariants.{NotAscii, BadNumber, BadShape, LimitPassed, OutOfMemory}
use Rattle.aom_syntax.specs.declared.keyword.Keyword.{Keyword}
use Rattle.aom_syntax.specs.Keywords.{keyword_text, keyword_of, unexpected_word}

infixl 10 ◌>>=◌
abbrev pub ◌>>=◌ : {A B : Type 0} → Result A AsmFaultKind → (A → Result B AsmFaultKind) → Result B AsmFaultKind
(Ok x) >>= f = f x
(Err e) >>= f = Err e

-- how a value is read
abbrev pub Reading : Type 0 → Type 0
Reading X = List (List ℕ) → Result (X × List (List ℕ)) AsmFaultKind

-- what a reader returned, seen by view, is what reading gives
abbrev pub Reads : {X Y : Type 0} → (X → Y) → Result X AsmFaultKind → Result Y AsmFaultKind → Type 0
Reads view (Ok x) read = read ≡ Ok (view x)
Reads view (Err e) read = read ≡ Err e

-- the same, unless memory ran out
abbrev pub ReadsOrNoMemory : {X Y : Type 0} → (X → Y) → Result X AsmFaultKind → Result Y AsmFaultKind → Type 0
ReadsOrNoMemory view (Ok x) read = read ≡ Ok (view x)
ReadsOrNoMemory view (Err e) read = e ≢ OutOfMemory → read ≡ Err e

-- ---- what readings are made of

-- nothing is read
abbrev pub giving : {X : Type 0} → X → Reading X
giving x ws = Ok (x, ws)

-- nothing can be read
abbrev pub failing : {X : Type 0} → AsmFaultKind → Reading X
failing kind ws = Err kind

-- one after another
abbrev pub next : {A B : Type 0} → Reading A → (A → Reading B) → Reading B
next a b ws = a ws >>= λ x. b x.0 x.1

-- what was read says something, or has a fault
abbrev pub seen : {A B : Type 0} → (A → Result B AsmFaultKind) → Reading A → Reading B
seen f a ws = a ws >>= λ x. f x.0 >>= λ y. Ok (y, x.1)

-- the next word
abbrev pub word : Reading (List ℕ)
word [] = Err BadShape
word (w ∷ ws) = if list_all is_plain w then Ok (w, ws) else Err NotAscii

-- ---- words of the language

-- whether the next word is this one; then it is read
abbrev pub took : Keyword → List (List ℕ) → Bool × List (List ℕ)
took key [] = (false, [])
took key (w ∷ ws) = if bytes_eq w (keyword_text key) then (true, ws) else (false, w ∷ ws)

-- the word that has to stand here
abbrev pub exactly : Keyword → List ℕ → Result (Unit {0}) AsmFaultKind
exactly key w = if bytes_eq w (keyword_text key) then Ok tt else Err (unexpected_word w)

abbrev pub keyword : Keyword → Reading (Unit {0})
keyword key = seen (exactly key) word

-- a word of the language
abbrev pub known : List ℕ → Option Keyword → Result Keyword AsmFaultKind
known w None = Err (unexpected_word w)
known w (Some k) = Ok k

abbrev pub any_keyword : Reading Keyword
any_keyword = seen (λ w. known w (keyword_of w)) word

-- where words of the language may follow, a left-over word is judged as one
abbrev pub nothing_more : Bool → Reading (Unit {0})
nothing_more expecting [] = Ok (tt, [])
nothing_more expecting (w ∷ ws) = word (w ∷ ws) >>= λ x. if expecting then Err (unexpected_word w) else Err BadShape

-- ---- numbers

abbrev pub in_range : {X : Type 0} → Option X → Result X AsmFaultKind
in_range None = Err LimitPassed
in_range (Some x) = Ok x

abbrev pub number_in : ℕ → ℕ → List ℕ → Result ℕ AsmFaultKind
number_in low high w = elim (number_of w) [ None ↦ Err BadNumber | Some n ↦ in_range (number_within low high n) ]

-- a number from low to high
abbrev pub number : ℕ → ℕ → Reading ℕ
number low high = seen (number_in low high) word

-- a number behind its keyword, and else 0
abbrev pub optional_number : Keyword → ℕ → Reading ℕ
optional_number key high ws = if (took key ws).0 then number 0 high (took key ws).1 else Ok (0, (took key ws).1)

-- ---- names

abbrev pub as_name : List ℕ → Result (List ℕ) AsmFaultKind
as_name w = if is_name w then Ok w else Err BadShape

-- a name that is declared here
abbrev pub name : Reading (List ℕ)
name = seen as_name word
