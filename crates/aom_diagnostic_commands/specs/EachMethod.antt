-- The first fault of each method that the verifier refuses, and what a call promises that tells them all.
use Rattle.std.specs.Prelude.{ℕ, ◌≡◌, ◌<◌, List, [], ◌∷◌, Option, None, Some, Result, Ok, Err, length}
use Rattle.aom_image.specs.Image.{Image}
use Rattle.aom_roles.specs.Tables.{at}
use Rattle.aom_static_bounds.specs.Shapes.{HasTyping}
use Rattle.aom_verify.specs.Arrivals.{FailsFor}
use Rattle.aom_verify.specs.declared.refusal.Refusal.{Refusal}
use Rattle.aom_verify.specs.declared.refusal.Refusal.TheVariants.{OutOfMemory, Refused}
use Rattle.aom_commands.specs.Acceptable.{IsSerialized}
use Rattle.aom_commands.specs.Headline.{IsSilent, ReportsFault, Reported, Sent}
use Rattle.aom_commands.specs.declared.faults.Fault.{Fault}
use Rattle.aom_commands.specs.declared.faults.Fault.TheVariants.{Verify, Memory}
use Rattle.aom_commands.specs.declared.status.ExitStatus.{ExitStatus}
use Rattle.aom_commands.specs.declared.status.ExitStatus.TheVariants.{ImageRefused}
use Rattle.aom_diagnostic_commands.specs.Programs.{IsLoaded, RefusesProgram, text_in}
use Rattle.aom_diagnostic_commands.specs.Tellings.{RefusedSo, ToldSo}
use Rattle.aom_diagnostic_commands.specs.declared.program.Program.{Program}
use Rattle.aom_diagnostic_commands.specs.declared.program.ProgramFault.{ProgramFault}
use Rattle.aom_diagnostic_commands.specs.declared.telling.Telling.{Telling}

-- what the verifier says of a method alone: nothing where it has a typing, and else a place and why a state that arrives there is refused
abbrev pub AnswersMethod : Image → ℕ → Option Refusal → Type 0
AnswersMethod p m None = HasTyping p m
AnswersMethod p m (Some OutOfMemory) = ⊥
AnswersMethod p m (Some (Refused method place why)) = (method ≡ m) × (¬ HasTyping p m) × FailsFor p m place why

-- what it says of each of the first so many methods
pub record AnswersFirst (p : Image) (count : ℕ) (answers : List (Option Refusal)) : Type 0 where
  pub size : length answers ≡ count
  pub each : (m : ℕ) → m < count → AnswersMethod p m (at None answers m)

-- those that are there, in their order
abbrev pub somes : {A : Type 0} → List (Option A) → List A
somes [] = []
somes (None ∷ others) = somes others
somes (Some x ∷ others) = x ∷ somes others

-- why each of the first so many methods is refused that is, in their order
pub record RefusesFirst (p : Image) (count : ℕ) (refusals : List Refusal) : Type 0 where
  pub answers : List (Option Refusal)
  pub given : AnswersFirst p count answers
  pub are : refusals ≡ somes answers

-- and each of all methods
abbrev pub RefusesEach : Image → List Refusal → Type 0
RefusesEach p = RefusesFirst p (length p.methods)

-- ---- how they are told

-- what a sink says of itself behind another text, and after a call
abbrev pub behind : (line errors : Sent) → Sent
behind line errors = record { before = line.now; now = errors.now; failed = errors.failed }

-- each of these is told, one behind the other
pub data EachTold (told : Refusal → Sent → Type 0) : List Refusal → Sent → Type 0 where
  none : {errors : Sent} → IsSilent errors → EachTold told [] errors
  next : {refusal : Refusal} {others : List Refusal} {errors : Sent} (line : Sent) → line.before ≡ errors.before → told refusal line → EachTold told others (behind line errors) → EachTold told (refusal ∷ others) errors

-- why a method is refused is told so
abbrev pub RefusalToldSo : Telling → (image : List ℕ) → (text : Option (List ℕ)) → Refusal → Sent → Type 0
RefusalToldSo telling image text refusal errors = ToldSo telling image text [] (Verify refusal) errors ImageRefused

-- of an image that the verifier refuses, the first fault of each method is told so; or that of all is, and that memory was wanting for the others
pub data MethodsToldSo (telling : Telling) (image : List ℕ) (text : Option (List ℕ)) (first : Refusal) (errors : Sent) : Type 0 where
  each : (refusals : List Refusal) → ((p : Image) → IsSerialized image p → RefusesEach p refusals) → EachTold (RefusalToldSo telling image text) refusals errors → MethodsToldSo telling image text first errors
  wants_memory : (line : Sent) → line.before ≡ errors.before → RefusalToldSo telling image text first line → ReportsFault Memory (behind line errors) → MethodsToldSo telling image text first errors

-- any other fault of an image is told alone
abbrev pub AllToldSo : Telling → (image : List ℕ) → (text : Option (List ℕ)) → Fault → Sent → ExitStatus → Type 0
AllToldSo telling image text (Verify first) errors status = (status ≡ ImageRefused) × MethodsToldSo telling image text first errors
AllToldSo telling image text fault errors status = ToldSo telling image text [] fault errors status

-- a status was answered and nothing said to the errors, or the fault was told so
abbrev pub AllAnsweredSo : Telling → (image : List ℕ) → (text : Option (List ℕ)) → Result ExitStatus Fault → Sent → ExitStatus → Type 0
AllAnsweredSo telling image text (Ok found) errors status = (status ≡ found) × IsSilent errors
AllAnsweredSo telling image text (Err fault) errors status = AllToldSo telling image text fault errors status

-- a command answers as it does where its first fault is told by its line, and tells that or those of each method so
pub data TellsAll (telling : Telling) (image : List ℕ) (text : Option (List ℕ)) (answers : Sent → ExitStatus → Type 0) (errors : Sent) (status : ExitStatus) : Type 0 where
  without : IsSilent errors → answers errors status → TellsAll telling image text answers errors status
  told : (fault : Fault) → ((plain : Sent) → Reported fault status plain → answers plain status) → AllToldSo telling image text fault errors status → TellsAll telling image text answers errors status

-- a call over a program: it has an image, and the command answers of that; or it has none, nothing else is done, and that is told so
pub data AnswersAll (telling : Telling) (program : Program) (untouched : Type 0) (answers : (image : List ℕ) → (text : Option (List ℕ)) → Sent → ExitStatus → Type 0) (errors : Sent) (status : ExitStatus) : Type 0 where
  loaded : (image : List ℕ) (text : Option (List ℕ)) → IsLoaded program image text → TellsAll telling image text (answers image text) errors status → AnswersAll telling program untouched answers errors status
  refused : untouched → (fault : ProgramFault) → RefusesProgram program fault → RefusedSo telling (text_in program) fault status errors → AnswersAll telling program untouched answers errors status
