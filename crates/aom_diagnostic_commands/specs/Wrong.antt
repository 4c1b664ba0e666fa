-- Which word of a text is wrong: the first one behind which the text may end and is refused so already.
use Rattle.std.specs.Prelude.{ℕ, zero, suc, ◌++◌, drop, false, ◌≡◌, ◌≢◌, ◌<◌, ◌≤◌, ◌+◌, ◌-◌, ◌==◌, ◌||◌, ◌&&◌, Bool, true, not, if◌then◌else◌, List, [], ◌∷◌, Option, Some, None, Err, length, slice_index_or, take}
use Rattle.aom_asm.specs.Denoted.{denoted}
use Rattle.aom_text.specs.Words.{is_blank}
use Rattle.aom_text.specs.declared.fault.AsmFault.{AsmFault}
use Rattle.aom_text.specs.declared.fault.AsmFaultKind.{AsmFaultKind}
use Rattle.aom_text.specs.declared.fault.AsmFaultKind.TheVariants.{UnknownWord, BadNumber, BadShape, DoubleName}
use Rattle.aom_diagnostics.specs.Malformed.{form_text}
use Rattle.aom_diagnostics.specs.Places.{word_text}

-- ---- words and lines in a text

-- a byte that stands in no word
abbrev pub parts_words : ℕ → Bool
parts_words b = is_blank b || (b == 10 || (b == 59 || b == 35))

-- a word ends at that place: behind a text's end there is a line feed
abbrev pub ends_word : List ℕ → ℕ → Bool
ends_word text end = not (parts_words (slice_index_or text (end - 1) 10)) && parts_words (slice_index_or text end 10)

-- where the word begins that ends there
abbrev pub word_start : List ℕ → ℕ → ℕ
word_start text zero = zero
word_start text (suc end) = if parts_words (slice_index_or text end 10) then suc end else word_start text end

-- where a line begins that has so many before it
abbrev pub line_start : List ℕ → ℕ → ℕ
line_start [] before = 0
line_start (b ∷ bs) zero = 0
line_start (b ∷ bs) (suc before) = 1 + line_start bs (if b == 10 then before else suc before)

-- ---- the word that is wrong

-- a word of the fault's line ends there, in its first 200 bytes, and a text that ends there has that very fault
pub record RefusedAt (text : List ℕ) (fault : AsmFault) (end : ℕ) : Type 0 where
  pub behind : line_start text (fault.line - 1) < end
  pub near : end ≤ line_start text (fault.line - 1) + 200
  pub inside : end ≤ length text
  pub line : (place : ℕ) → line_start text (fault.line - 1) ≤ place → place < end → slice_index_or text place 10 ≢ 10
  pub ends : ends_word text end ≡ true
  pub so : denoted (take end text) ≡ Err fault

-- it is the first of these, or there is none
abbrev pub IsWrongEnd : List ℕ → AsmFault → Option ℕ → Type 0
IsWrongEnd text fault None = (end : ℕ) → ¬ RefusedAt text fault end
IsWrongEnd text fault (Some end) = RefusedAt text fault end × ((before : ℕ) → before < end → ¬ RefusedAt text fault before)

-- ---- what is told of it

-- the word that ends there
abbrev pub end_text : List ℕ → Option ℕ → List ℕ
end_text text None = []
end_text text (Some end) = word_text (drop (word_start text end) (take end text))

-- it is written behind a text
pub record ReportsWord (text : List ℕ) (fault : AsmFault) (before after : List ℕ) : Type 0 where
  pub end : Option ℕ
  pub wrong : IsWrongEnd text fault end
  pub put : after ≡ before ++ end_text text end

-- it is told where a word should be one of the language, a number, or a name that is new
abbrev pub has_word : AsmFaultKind → Bool
has_word UnknownWord = true
has_word BadNumber = true
has_word DoubleName = true
has_word _ = false

-- of a wrong shape the form of the instruction is told that has another one
abbrev pub shape_text : AsmFaultKind → List ℕ → ℕ → List ℕ
shape_text BadShape text line = form_text text line
shape_text _ text line = []

abbrev pub AddsWord : Bool → (text : List ℕ) → AsmFault → List ℕ → List ℕ → Type 0
AddsWord true text fault before after = ReportsWord text fault before after
AddsWord false text fault before after = after ≡ before ++ shape_text fault.kind text fault.line
