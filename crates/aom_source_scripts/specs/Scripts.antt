-- A script with comments and names, and the script that it stands for.
use Rattle.std.specs.Prelude.{List, [], ◌∷◌, ℕ, ◌==◌, ◌&&◌, ◌||◌, Bool, true, false, nat_le, if◌then◌else◌, ◌++◌, Option, Some, None, decimal, fold}
use Rattle.std.specs.Str.{bytes_eq}
use Rattle.aom_source_scripts.specs.declared.naming.ScriptName.{ScriptName}

-- the number that a word stands for: that of the first name that it is
unfoldable pub number_of : (names : List ScriptName) → (word : List ℕ) → Option ℕ
number_of [] word = None
number_of (n ∷ ns) word = if bytes_eq n.name.now word then Some n.number else number_of ns word

-- a word, or the number that it stands for
abbrev pub spelled_by : Option ℕ → (word : List ℕ) → List ℕ
spelled_by None word = word
spelled_by (Some number) word = decimal number

-- a letter, a digit, `_` or `-`
abbrev pub is_in_word : ℕ → Bool
is_in_word b = (nat_le 97 b && nat_le b 122) || ((nat_le 65 b && nat_le b 90) || ((nat_le 48 b && nat_le b 57) || (b == 95 || b == 45)))

-- what has come of the bytes so far, the word that is open, and whether a comment is
pub record Reading : Type 0 where
  pub done : List ℕ
  pub word : List ℕ
  pub in_comment : Bool

abbrev pub start : Reading
start = record { done = []; word = []; in_comment = false }

-- what has come of them where the word ends
abbrev pub ended : (names : List ScriptName) → Reading → List ℕ
ended names r = r.done ++ spelled_by (number_of names r.word) r.word

-- a byte of a comment, which ends before the end of its line
abbrev pub after_comment : Reading → ℕ → Reading
after_comment r b = if b == 10 then record r { done = r.done ++ b ∷ []; in_comment = false } else r

-- a byte behind a word
abbrev pub after_word : (done : List ℕ) → ℕ → Reading
after_word done b = if b == 35 then record { done = done; word = []; in_comment = true } else record { done = done ++ b ∷ []; word = []; in_comment = false }

-- one byte more
abbrev pub after : (names : List ScriptName) → Reading → ℕ → Reading
after names r b =
    if r.in_comment then after_comment r b
    else (if is_in_word b then record r { word = r.word ++ b ∷ [] } else after_word (ended names r) b)

-- the script that it stands for
abbrev pub plain_script : (names : List ScriptName) → (script : List ℕ) → List ℕ
plain_script names script = ended names (fold (after names) start script)
