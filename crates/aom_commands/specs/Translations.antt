-- What `asm`, `dis` and `dot` promise of their sinks and their status, from bytes to bytes.
use Rattle.std.specs.Prelude.{ℕ, ◌≡◌, ◌⊎◌, List, Some}
use Rattle.aom_codec.specs.Format.{first_fault}
use Rattle.aom_commands.specs.declared.status.ExitStatus.{ExitStatus}
use Rattle.aom_commands.specs.declared.status.ExitStatus.TheVariants.{Done, ImageRefused, Fault as Faulty}
use Rattle.aom_commands.specs.declared.faults.Fault.{Fault}
use Rattle.aom_commands.specs.declared.faults.Fault.TheVariants as faults
use Rattle.aom_commands.specs.declared.commands.Translation.{Translation}
use Rattle.aom_commands.specs.declared.commands.Translation.TheVariants.{Asm, Dis, Dot}
use Rattle.aom_commands.specs.Assembly.{IsFaulty, Lists, Makes, RefusesBytes, RefusesText}
use Rattle.aom_cost_report.specs.Names.{Names}
use Rattle.aom_commands.specs.Drawn.{IsDrawn, IsDrawnBy}
use Rattle.aom_commands.specs.Headline.{ImageWantsMemory, RefusedFor, Sent, WriteFails, Writes}
use Rattle.aom_commands.specs.Prices.{IsUnpriced, StopsEarly}

-- the text is what a file is translated to
abbrev pub IsTranslation : Translation → (file text : List ℕ) → Type 0
IsTranslation to = elim to [ Asm ↦ Makes | Dis ↦ Lists | Dot ↦ IsDrawn ]

-- why it is translated to nothing: its first fault, or memory was wanting
abbrev pub RefusesFile : Translation → List ℕ → Fault → Type 0
RefusesFile to = elim to [ Asm ↦ RefusesText | Dis ↦ RefusesBytes | Dot ↦ StopsEarly ]

-- it is refused: nothing went out, and the errors say why. Of an image that is to be drawn this is what stands before its budgets alone
abbrev pub IsUntranslated : Translation → List ℕ → Sent → Sent → Type 0
IsUntranslated Asm text out errors = RefusedFor faults.Asm (IsFaulty text) out errors
IsUntranslated Dis bytes out errors = RefusedFor faults.Load (λ fault. first_fault bytes ≡ Some fault) out errors
IsUntranslated Dot bytes out errors = IsUnpriced bytes out errors

-- what each status says of a call of `asm`, `dis` or `dot`
abbrev pub Translates : Translation → List ℕ → Sent → Sent → ExitStatus → Type 0
Translates to file out errors Done = Writes (IsTranslation to file) out errors
Translates to file out errors ImageRefused = IsUntranslated to file out errors
Translates to file out errors Faulty = ImageWantsMemory out errors ⊎ WriteFails (IsTranslation to file) out errors
Translates to file out errors _ = ⊥

-- and of a call of `dot` whose graph has these names
abbrev pub DrawsBy : Names → List ℕ → Sent → Sent → ExitStatus → Type 0
DrawsBy names bytes out errors Done = Writes (IsDrawnBy names bytes) out errors
DrawsBy names bytes out errors ImageRefused = IsUnpriced bytes out errors
DrawsBy names bytes out errors Faulty = ImageWantsMemory out errors ⊎ WriteFails (IsDrawnBy names bytes) out errors
DrawsBy names bytes out errors _ = ⊥
