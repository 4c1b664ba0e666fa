-- How the lines of a transcript are written: with the numbers of classes, or with names in their places.
use Rattle.std.specs.Prelude.{ℕ, ◌≡◌, List, ◌++◌, Option, Some, None, codes, decimal, flat_map, if◌then◌else◌, length, map, nat_lt, slice_get}
use Rattle.std.specs.Borrow.{Bor}
use Rattle.std.specs.Fmt.{signed_decimal}
use Rattle.aom_transcript.specs.declared.line.Line.{Line}
use Rattle.aom_transcript.specs.declared.line.Line.TheVariants.{Gone, Run, Serve}
use Rattle.aom_transcript.specs.declared.line.Ending.{Ending}
use Rattle.aom_transcript.specs.Text.{asked_text, end_text, ended, line_text, text_of, transcript}

-- what is written of a class: its name or, where it has none or one that is longer than a name can be, its number
abbrev pub name_or_number : ℕ → Option (List ℕ) → List ℕ
name_or_number class None = decimal class
name_or_number class (Some name) = if nat_lt 32 (length name) then decimal class else name

-- of classes that have these names, the first class the first
abbrev pub class_word : List (List ℕ) → ℕ → List ℕ
class_word names class = name_or_number class (slice_get names class)

-- a line, without its line feed, in which a class is written so; all other lines are as ever
abbrev pub named_text : (ℕ → List ℕ) → Line → List ℕ
named_text word (Gone class) = codes "gone " ++ word class
named_text word (Run time class status) = codes "@" ++ decimal time ++ codes " run " ++ word class ++ codes " " ++ signed_decimal status
named_text word (Serve time class asked client) = codes "@" ++ decimal time ++ codes " serve " ++ word class ++ asked_text asked ++ decimal client
named_text word line = line_text line

-- names that are lent
abbrev pub borrowed : List (Bor (List ℕ)) → List (List ℕ)
borrowed names = map (λ (n : Bor (List ℕ)). n.now) names

-- a line by the names of classes, where there are some
abbrev pub named_by : Option (Bor (List (Bor (List ℕ)))) → Line → List ℕ
named_by None = line_text
named_by (Some names) = named_text (class_word (borrowed names.now))

-- lines that are written so, each with its line feed
abbrev pub text_by : (Line → List ℕ) → List Line → List ℕ
text_by reads lines = flat_map (λ line. ended (reads line)) lines

-- a whole transcript that is written so. Its last line has no class
abbrev pub transcript_by : (Line → List ℕ) → List Line → Ending → ℕ → List ℕ
transcript_by reads lines ending cells = text_by reads lines ++ ended (end_text ending cells)

-- the law: where lines are read with the numbers of classes, what is written is the transcript
pub record NumbersAreTranscripts : Type 0 where
  pub line : (line : Line) → named_text decimal line ≡ line_text line
  pub lines : (lines : List Line) → text_by line_text lines ≡ text_of lines
  pub whole : (lines : List Line) (ending : Ending) (cells : ℕ) → transcript_by line_text lines ending cells ≡ transcript lines ending cells
