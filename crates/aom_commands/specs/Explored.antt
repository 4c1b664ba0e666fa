-- What is written where a run is tried again and again, each time with something that befalls it.
use Rattle.std.specs.Prelude.{ℕ, ◌≡◌, ◌<◌, ◌⊎◌, Bool, true, false, if◌then◌else◌, List, [], ◌∷◌, ◌++◌, Option, Some, None, codes, count_by, map, take}
use Rattle.aom_image.specs.Image.{Image}
use Rattle.aom_semantics.specs.Places.{count_cells}
use Rattle.aom_semantics.specs.State.{State}
use Rattle.aom_semantics.specs.World.{Environment, Run_of}
use Rattle.aom_transcript.specs.Text.{end_text, ended, transcript}
use Rattle.aom_transcript.specs.declared.line.Line.{Line}
use Rattle.aom_script.specs.Script.{Script, WantsMemory}
use Rattle.aom_script.specs.declared.fault.ScriptFault.{ScriptFault}
use Rattle.aom_fault_injection.specs.Injections.{injected, injection_text}
use Rattle.aom_fault_injection.specs.Planned.{planned, times_in, unplanned}
use Rattle.aom_fault_injection.specs.Expected.{Exploration, is_judged, is_unexpected, mark_text, tells_counts, tries_alone}
use Rattle.aom_fault_injection.specs.declared.expected.ExpectedEnding.{ExpectedEnding}
use Rattle.aom_fault_injection.specs.OutcomeTables.{OutcomeCounts, closing_text, outcome_counts_of}
use Rattle.aom_fault_injection.specs.declared.injection.Injection.{Injection}
use Rattle.aom_fault_injection.specs.declared.tries.Tries.{Tries}
use Rattle.aom_commands.specs.Headline.{Accepts, HasNatives, ImageWantsMemory, IsNoScript, IsRefused, IsSilent, RunsSafely, Says, Sent, ReportsFault, WantsNatives, outside_of}
use Rattle.aom_commands.specs.declared.exploring.RunEnd.{RunEnd}
use Rattle.aom_natives.specs.declared.fault.BootFault.TheVariants.{TooFewNatives}
use Rattle.aom_commands.specs.declared.faults.Fault.{Fault}
use Rattle.aom_commands.specs.declared.faults.Fault.TheVariants as faults
use Rattle.aom_commands.specs.declared.status.ExitStatus.{ExitStatus}
use Rattle.aom_commands.specs.declared.status.ExitStatus.TheVariants.{Done, ImageRefused, CallRefused, Unfinished, Broken, Fault as Faulty}

-- what a sink keeps, where it keeps anything
abbrev pub kept_text : Bool → List ℕ → Option (List ℕ)
kept_text true text = Some text
kept_text false text = None

-- a run of the image ended so, and that is its transcript
pub record IsLast (p : Image) (outside : Environment) (last : RunEnd) (text : List ℕ) : Type 0 where
  pub lines : List Line
  pub state : State
  pub run : Run_of p outside lines state last.ending
  pub cells : last.cells ≡ count_cells state.cells
  pub requests : last.requests ≡ state.rest.requests
  pub text_is : text ≡ transcript lines last.ending (count_cells state.cells)

-- a run of the image ended so, and did something at these times, where they are marked
pub record HasPlain (p : Image) (outside : Environment) (marks : Bool) (last : RunEnd) (times : List ℕ) : Type 0 where
  pub text : List ℕ
  pub is : IsLast p outside last text
  pub marked : marks ≡ true → times ≡ times_in text

-- what is tried: what is planned by a run under the script as it is, which ended so
pub record Plans (p : Image) (script : Script) (limit natives : ℕ) (tries : Tries) (plain : RunEnd) (injections : List Injection) (left : Option Injection) : Type 0 where
  pub text : List ℕ
  pub is : IsLast p (outside_of script limit natives) plain text
  pub injections_are : injections ≡ planned tries natives script.timed plain.requests (times_in text)
  pub left_is : left ≡ unplanned tries plain.requests

-- ---- lines

-- the line of a run: what befell it, how it ended, and a mark where that is not expected
abbrev pub run_line : List ExpectedEnding → (words : List ℕ) → RunEnd → List ℕ
run_line expected words last = ended (words ++ codes " " ++ end_text last.ending last.cells ++ mark_text expected last.ending last.cells)

-- the line of a try
abbrev pub tried_line : List ExpectedEnding → Injection → RunEnd → List ℕ
tried_line expected injection last = run_line expected (injection_text injection) last

-- the line of the run as it is, where that is asked
abbrev pub base_line : Exploration → RunEnd → List ℕ
base_line asked plain = if asked.base then run_line asked.expected (codes "as it is") plain else []

-- the line of a run under the script that says what befalls it too, which ended so
pub record Tried (p : Image) (script : Script) (limit natives : ℕ) (expected : List ExpectedEnding) (injection : Injection) (last : RunEnd) (line : List ℕ) : Type 0 where
  pub text : List ℕ
  pub ends : IsLast p (outside_of (injected injection script) limit natives) last text
  pub is : line ≡ tried_line expected injection last

-- one such line for each of these, in their order
pub data EachTried (p : Image) (script : Script) (limit natives : ℕ) (expected : List ExpectedEnding) : List Injection → List RunEnd → List ℕ → Type 0 where
  none : EachTried p script limit natives expected [] [] []
  and_one : {injections : List Injection} {lasts : List RunEnd} {text : List ℕ} (injection : Injection) (last : RunEnd) (line : List ℕ) → EachTried p script limit natives expected injections lasts text → Tried p script limit natives expected injection last line → EachTried p script limit natives expected (injections ++ injection ∷ []) (lasts ++ last ∷ []) (text ++ line)

-- ---- counts

-- the runs that are told: that of the script as it is, where that is asked, and the tries
abbrev pub told_runs : Exploration → RunEnd → List RunEnd → List RunEnd
told_runs asked plain lasts = if asked.base then plain ∷ lasts else lasts

-- how they ended
abbrev pub outcomes_of : List RunEnd → OutcomeCounts
outcomes_of lasts = outcome_counts_of (map (λ last. last.ending) lasts)

-- how many of them not as expected
abbrev pub unexpected_among : List ExpectedEnding → List RunEnd → ℕ
unexpected_among expected lasts = count_by (λ last. is_unexpected expected last.ending last.cells) lasts

-- that number, where ends are judged
abbrev pub judged_count : List ExpectedEnding → ℕ → Option ℕ
judged_count expected count = if is_judged expected then Some count else None

-- what is written at the end
abbrev pub closing : Exploration → Option Injection → OutcomeCounts → (unexpected : ℕ) → List ℕ
closing asked left outcome_counts unexpected = if tells_counts asked then closing_text left outcome_counts (judged_count asked.expected unexpected) else []

-- ---- what went out

-- the first so many of these were tried, and their lines went out behind that of the run as it is, or a beginning of them where the sink has failed
pub record Begun (p : Image) (script : Script) (limit natives : ℕ) (asked : Exploration) (plain : RunEnd) (injections : List Injection) (sent : Sent) : Type 0 where
  pub count : ℕ
  pub lasts : List RunEnd
  pub text : List ℕ
  pub tried : EachTried p script limit natives asked.expected (take count injections) lasts text
  pub says : Says (base_line asked plain ++ text) sent

-- so many were, with these counts: all, unless the sink has failed
pub record TriesAll (p : Image) (script : Script) (limit natives : ℕ) (asked : Exploration) (plain : RunEnd) (injections : List Injection) (outcome_counts : OutcomeCounts) (unexpected : ℕ) (sent : Sent) : Type 0 where
  pub begun : Begun p script limit natives asked plain injections sent
  pub counts : outcome_counts ≡ outcomes_of (told_runs asked plain begun.lasts)
  pub judged : unexpected ≡ unexpected_among asked.expected (told_runs asked plain begun.lasts)
  pub all : sent.failed ≡ false → take begun.count injections ≡ injections

-- all were tried, so many not as expected, and their lines went out with what is written at the end, or a beginning of that where the sink has failed
pub record Finished (p : Image) (script : Script) (limit natives : ℕ) (asked : Exploration) (plain : RunEnd) (injections : List Injection) (left : Option Injection) (unexpected : ℕ) (sent : Sent) : Type 0 where
  pub lasts : List RunEnd
  pub text : List ℕ
  pub tried : EachTried p script limit natives asked.expected injections lasts text
  pub judged : unexpected ≡ unexpected_among asked.expected (told_runs asked plain lasts)
  pub says : Says (base_line asked plain ++ text ++ closing asked left (outcomes_of (told_runs asked plain lasts)) unexpected) sent

-- what is planned was tried, and so many of the runs that are told did not end as expected; or the sink has failed before
pub record Explored (p : Image) (script : Script) (limit natives : ℕ) (asked : Exploration) (unexpected : ℕ) (sent : Sent) : Type 0 where
  pub plain : RunEnd
  pub injections : List Injection
  pub left : Option Injection
  pub plans : Plans p script limit natives asked.tries plain injections left
  pub ends : Finished p script limit natives asked plain injections left unexpected sent ⊎ ((sent.failed ≡ true) × Begun p script limit natives asked plain injections sent)

-- ---- what is answered

-- why a run with natives of its own is not made: the image names more, or memory was wanting for one or for the machine
abbrev pub RefusesTry : Image → (natives : ℕ) → Fault → Type 0
RefusesTry p natives (faults.Boot TooFewNatives) = natives < p.header.natives
RefusesTry p natives faults.Memory = Unit {0}
RefusesTry p natives _ = ⊥

-- nothing went out, or some of what is planned was tried
abbrev pub Stops : Image → Script → (limit natives : ℕ) → Exploration → Sent → Type 0
Stops p script limit natives asked sent =
    IsSilent sent
    ⊎ ((plain : RunEnd) × (injections : List Injection) × (left : Option Injection) × Plans p script limit natives asked.tries plain injections left × Begun p script limit natives asked plain injections sent)

-- why no more is tried: the image names more natives, which is told before anything is written, or memory was wanting
abbrev pub BreaksOff : Image → Script → (limit natives : ℕ) → Exploration → Sent → Fault → Type 0
BreaksOff p script limit natives asked sent (faults.Boot TooFewNatives) = (natives < p.header.natives) × IsSilent sent
BreaksOff p script limit natives asked sent faults.Memory = Stops p script limit natives asked sent
BreaksOff p script limit natives asked sent _ = ⊥

-- of an accepted image: memory was wanting for the script, or for one of the machines and its natives, or the output failed
pub data ExploreBreaks (bytes text : List ℕ) (limit natives : ℕ) (asked : Exploration) (out errors : Sent) : Type 0 where
  script_wants_memory : IsSilent out → Accepts bytes → (fault : ScriptFault) → WantsMemory text fault → ReportsFault faults.Memory errors → ExploreBreaks bytes text limit natives asked out errors
  machine_wants_memory : (r : RunsSafely bytes text limit natives) → Stops r.image r.script limit natives asked out → ReportsFault faults.Memory errors → ExploreBreaks bytes text limit natives asked out errors
  output_fails : (r : RunsSafely bytes text limit natives) → HasNatives r.image natives → (unexpected : ℕ) → Explored r.image r.script limit natives asked unexpected out → out.failed ≡ true → ReportsFault faults.Write errors → ExploreBreaks bytes text limit natives asked out errors

-- of an accepted image: all was tried and told, and so many of the runs did not end as expected
pub record ExploresAll (bytes text : List ℕ) (limit natives : ℕ) (asked : Exploration) (out errors : Sent) (unexpected : ℕ) : Type 0 where
  pub runs : RunsSafely bytes text limit natives
  pub enough : HasNatives runs.image natives
  pub explored : Explored runs.image runs.script limit natives asked unexpected out
  pub lives : out.failed ≡ false
  pub silent : IsSilent errors

-- what each status says of a call of `explore` whose image is accepted
abbrev pub AcceptedExplores : List ℕ → List ℕ → (limit natives : ℕ) → Exploration → Sent → Sent → ExitStatus → Type 0
AcceptedExplores bytes text limit natives asked out errors Done = ExploresAll bytes text limit natives asked out errors 0
AcceptedExplores bytes text limit natives asked out errors CallRefused = IsNoScript bytes text out errors ⊎ WantsNatives bytes text natives out errors
AcceptedExplores bytes text limit natives asked out errors Faulty = ExploreBreaks bytes text limit natives asked out errors
AcceptedExplores bytes text limit natives asked out errors ImageRefused = ⊥
AcceptedExplores bytes text limit natives asked out errors Unfinished = (is_judged asked.expected ≡ true) × ((unexpected : ℕ) × (0 < unexpected) × ExploresAll bytes text limit natives asked out errors unexpected)
AcceptedExplores bytes text limit natives asked out errors Broken = ⊥

-- and of any call
abbrev pub ExploreAnswersOf : List ℕ → List ℕ → (limit natives : ℕ) → Exploration → Sent → Sent → ExitStatus → Type 0
ExploreAnswersOf bytes text limit natives asked out errors ImageRefused = IsRefused bytes out errors
ExploreAnswersOf bytes text limit natives asked out errors Faulty = ImageWantsMemory out errors ⊎ ExploreBreaks bytes text limit natives asked out errors
ExploreAnswersOf bytes text limit natives asked out errors status = AcceptedExplores bytes text limit natives asked out errors status

-- and of one that is asked for tries alone
abbrev pub ExploreAnswers : List ℕ → List ℕ → (limit natives : ℕ) → Tries → Sent → Sent → ExitStatus → Type 0
ExploreAnswers bytes text limit natives tries out errors status = ExploreAnswersOf bytes text limit natives (tries_alone tries) out errors status
