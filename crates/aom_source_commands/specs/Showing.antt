-- A source as it is shown: with a comment behind some of its lines.
use Rattle.std.specs.Prelude.{List, [], ◌∷◌, ℕ, ◌+◌, ◌==◌, if◌then◌else◌, ◌++◌, ◌≡◌, ◌≢◌, ◌⊎◌, All, Result, Ok, Err, codes, get_or, true}
use Rattle.aom_commands.specs.Headline.{Sent, Says, IsSilent}
use Rattle.aom_commands.specs.declared.status.ExitStatus.{ExitStatus}
use Rattle.aom_commands.specs.declared.status.ExitStatus.TheVariants as statuses
use Rattle.aom_commands.specs.declared.faults.Fault.{Fault}
use Rattle.aom_commands.specs.declared.faults.Fault.TheVariants as faults
use Rattle.aom_source_commands.specs.Telling.{TellsPlace}
use Rattle.aom_source_commands.specs.declared.compiling.Compiled.{Compiled}
use Rattle.aom_source_commands.specs.declared.compiling.Compiled.TheVariants.{Text, Refused}

-- nothing, or a comment to the end of the line
pub record IsNote (note : List ℕ) : Type 0 where
  pub begins : (note ≡ []) ⊎ ((words : List ℕ) × (note ≡ codes "  // " ++ words))
  pub one_line : All (λ b. b ≢ 10) note

-- a byte of a line, with the note of the line before it where the line ends
abbrev pub shown_byte : (notes : List (List ℕ)) → (line b : ℕ) → List ℕ
shown_byte notes line b = (if b == 10 then get_or notes line [] else []) ++ b ∷ []

-- the line behind a byte of a line
abbrev pub line_behind : (line b : ℕ) → ℕ
line_behind line b = if b == 10 then line + 1 else line

-- a text with the notes of its lines, of which the first has that number, before their line feeds
unfoldable pub shown : (notes : List (List ℕ)) → (line : ℕ) → (bytes : List ℕ) → List ℕ
shown notes line [] = get_or notes line []
shown notes line (b ∷ bs) = shown_byte notes line b ++ shown notes (line_behind line b) bs

-- a source is shown so
abbrev pub IsShown : (source text : List ℕ) → Type 0
IsShown source text = (notes : List (List ℕ)) × All IsNote notes × (text ≡ shown notes 0 source)

abbrev pub IsShownOrTold : (name source : List ℕ) → Compiled → Type 0
IsShownOrTold name source (Text text) = IsShown source text.items
IsShownOrTold name source (Refused told) = TellsPlace name source told.items

-- a source went out with its notes; or what is told of it begins with a place of it, and nothing went out; or the output or the memory has failed
abbrev pub ShowsSource : (name source : List ℕ) → Sent → Sent → Result ExitStatus Fault → Type 0
ShowsSource name source out errors (Ok statuses.Done) = ((text : List ℕ) × IsShown source text × Says text out) × IsSilent errors
ShowsSource name source out errors (Ok statuses.ImageRefused) = IsSilent out × ((told : List ℕ) × TellsPlace name source told × Says told errors)
ShowsSource name source out errors (Err faults.Write) = (out.failed ≡ true) × IsSilent errors
ShowsSource name source out errors (Err faults.Memory) = IsSilent out × IsSilent errors
ShowsSource name source out errors answer = ⊥
