-- What a call promises of its sinks and its status, from bytes to bytes. `reads` says how a line of a transcript is written.
use Rattle.std.specs.Prelude.{ℕ, ◌≡◌, ◌<◌, ◌≤◌, ◌⊎◌, Bool, true, false, List, Option, take, codes, Result, Ok, Err}
use Rattle.aom_image.specs.Image.{Image}
use Rattle.aom_semantics.specs.Places.{count_cells}
use Rattle.aom_semantics.specs.State.{State}
use Rattle.aom_run.specs.Turns.{observing}
use Rattle.aom_semantics.specs.World.{Environment, Run_of}
use Rattle.aom_transcript.specs.declared.line.Line.{Line}
use Rattle.aom_transcript.specs.declared.line.Ending.{Ending}
use Rattle.aom_transcript.specs.declared.line.Ending.TheVariants as endings
use Rattle.aom_determinism.specs.Observing.{Follows, Oracle}
use Rattle.aom_determinism.specs.Determined.{IsDetermined}
use Rattle.aom_natives.specs.declared.fault.BootFault.TheVariants.{TooFewNatives}
use Rattle.aom_run.specs.declared.machine.HostedMachine.{HostedMachine}
use Rattle.aom_transcript.specs.Text.{ended, line_text}
use Rattle.aom_transcript.specs.Naming.{transcript_by}
use Rattle.aom_termination.specs.Runs.{RunsWell}
use Rattle.aom_termination.specs.Laws.{KeepsBudget}
use Rattle.aom_run.specs.declared.outcome.Outcome.{Outcome}
use Rattle.aom_run.specs.declared.outcome.Outcome.TheVariants as outcomes
use Rattle.aom_run.specs.Runs.{CutShort, IsFresh}
use Rattle.aom_transcript.specs.Sinks.{after}
use Rattle.aom_script.specs.Script.{Script, WantsMemory, denoted}
use Rattle.aom_script.specs.declared.fault.ScriptFault.{ScriptFault}
use Rattle.aom_commands.specs.declared.status.ExitStatus.{ExitStatus}
use Rattle.aom_commands.specs.declared.status.ExitStatus.TheVariants.{Done, ImageRefused, CallRefused, Unfinished, Broken, Fault as Faulty}
use Rattle.aom_commands.specs.declared.faults.Fault.{Fault}
use Rattle.aom_commands.specs.declared.faults.Fault.TheVariants as faults
use Rattle.aom_commands.specs.Status.{fault_line, status_of}
use Rattle.aom_commands.specs.Acceptable.{IsSerialized, IsAcceptable, Refuses}

-- a sink over a call: what was out before it and what is out after it, where the sink tells, and whether it has failed then
pub record Sent : Type 0 where
  pub before : Option (List ℕ)
  pub now : Option (List ℕ)
  pub failed : Bool

-- what a sink says of itself before a call and after it
abbrev pub over : {S : Type 0} → (out : S → Option (List ℕ)) → (failed : S → Bool) → (old new : S) → Sent
over out failed old new = record { before = out old; now = out new; failed = failed new }

-- nothing went out
abbrev pub IsSilent : Sent → Type 0
IsSilent sent = sent.now ≡ sent.before

-- a text went out, or a beginning of it where the sink has failed
pub record Says (text : List ℕ) (sent : Sent) : Type 0 where
  pub count : ℕ
  pub part : sent.now ≡ after sent.before (take count text)
  pub whole : sent.failed ≡ false → sent.now ≡ after sent.before text

-- the line of a fault went out
abbrev pub ReportsFault : Fault → Sent → Type 0
ReportsFault fault sent = Says (ended (fault_line fault)) sent

-- a fault is told with its status
abbrev pub Reported : Fault → ExitStatus → Sent → Type 0
Reported fault status errors = (status ≡ status_of fault) × ReportsFault fault errors

-- a text went out with status 0, or the output has failed and that is told
abbrev pub Sends : List ℕ → ExitStatus → Sent → Sent → Type 0
Sends text status out errors =
    ((status ≡ Done) × (out.now ≡ after out.before text) × IsSilent errors)
    ⊎ ((status ≡ Faulty) × (out.failed ≡ true) × Says text out × ReportsFault faults.Write errors)

-- a text that was due went out, and nothing was said to the errors
abbrev pub Writes : (List ℕ → Type 0) → Sent → Sent → Type 0
Writes Due out errors = (text : List ℕ) × Due text × (out.now ≡ after out.before text) × IsSilent errors

-- a text was due, and the output failed
pub record WriteFails (Due : List ℕ → Type 0) (out errors : Sent) : Type 0 where
  pub text : List ℕ
  pub due : Due text
  pub failed : out.failed ≡ true
  pub says : Says text out
  pub reports : ReportsFault faults.Write errors

-- nothing went out, for a reason of one kind, and the errors say why
pub record RefusedFor {F : Type 0} (line : F → Fault) (Reason : F → Type 0) (out errors : Sent) : Type 0 where
  pub silent : IsSilent out
  pub reason : F
  pub why : Reason reason
  pub reports : ReportsFault (line reason) errors

-- memory was wanting on the way to an image, before anything went out. It says nothing of the image
pub record ImageWantsMemory (out errors : Sent) : Type 0 where
  pub silent : IsSilent out
  pub reports : ReportsFault faults.Memory errors

-- the transcript of a run of the checked machine went out
pub record Transcribed (reads : Line → List ℕ) (p : Image) (outside : Environment) (ending : Ending) (sent : Sent) : Type 0 where
  pub lines : List Line
  pub last : State
  pub run : Run_of p outside lines last ending
  pub out : sent.now ≡ after sent.before (transcript_by reads lines ending (count_cells last.cells))

-- a run that ended so would have sent what went out
abbrev pub EndsAs : (Line → List ℕ) → Ending → Sent → List Line → State → Ending → Type 0
EndsAs reads ending sent lines last other = (other ≡ ending) × (sent.now ≡ after sent.before (transcript_by reads lines other (count_cells last.cells)))

-- no other transcript could have gone out: some oracle says what the run heard of natives, and each run of the image that ends and hears the same ends so, with the transcript that went out. Of an image that names no native so does each run that ends
pub record IsOnly (reads : Line → List ℕ) (p : Image) (outside : Environment) (ending : Ending) (sent : Sent) (shown : Transcribed reads p outside ending sent) : Type 0 where
  pub oracle : Oracle
  pub follows : Follows oracle shown.run.reaches
  pub observing_same : (lines : List Line) (last : State) (other : Ending) (run : Run_of p outside lines last other) → Follows oracle run.reaches → EndsAs reads ending sent lines last other
  pub observing_none : p.header.natives ≡ 0 → (lines : List Line) (last : State) (other : Ending) → Run_of p outside lines last other → EndsAs reads ending sent lines last other

-- the sink has failed, and a beginning of such a transcript went out
pub record Cut (reads : Line → List ℕ) (p : Image) (outside : Environment) (sent : Sent) : Type 0 where
  pub failed : sent.failed ≡ true
  pub beginning : CutShort reads p outside sent.before sent.now

-- what an outcome says of the transcript
abbrev pub Shows : (Line → List ℕ) → Image → Environment → Outcome → Sent → Type 0
Shows reads p outside outcomes.Stopped out = Transcribed reads p outside endings.Stopped out
Shows reads p outside outcomes.Waiting out = Transcribed reads p outside endings.Waiting out
Shows reads p outside (outcomes.MainLeft code) out = Transcribed reads p outside (endings.MainLeft code) out
Shows reads p outside outcomes.Limit out = Transcribed reads p outside endings.Limit out
Shows reads p outside (outcomes.Error answer) out = Transcribed reads p outside (endings.Error answer) out
Shows reads p outside outcomes.WriteFault out = Cut reads p outside out

-- the status of a run, and what the errors say of it
abbrev pub Ends : Outcome → ExitStatus → Sent → Type 0
Ends outcomes.Stopped status errors = (status ≡ Done) × IsSilent errors
Ends outcomes.Waiting status errors = (status ≡ Unfinished) × IsSilent errors
Ends (outcomes.MainLeft code) status errors = (status ≡ Broken) × IsSilent errors
Ends outcomes.Limit status errors = (status ≡ Unfinished) × IsSilent errors
Ends (outcomes.Error answer) status errors = (status ≡ Broken) × IsSilent errors
Ends outcomes.WriteFault status errors = Reported faults.Write status errors

-- the same of one that may not have been made, whose fault is told then
abbrev pub EndsOrFails : Result Outcome Fault → ExitStatus → Sent → Type 0
EndsOrFails (Ok outcome) status errors = Ends outcome status errors
EndsOrFails (Err fault) status errors = Reported fault status errors

-- the bytes are an accepted image
pub record Accepts (bytes : List ℕ) : Type 0 where
  pub image : Image
  pub serialized : IsSerialized bytes image
  pub acceptable : IsAcceptable image

-- every run of an image goes well within its declared steps, whatever comes from outside, and has one text
pub record AllRunWell (p : Image) : Type 0 where
  pub each : (bytes : List ℕ) → IsSerialized bytes p → (outside : Environment) → RunsWell p outside
  pub within : (bytes : List ℕ) → IsSerialized bytes p → (outside : Environment) → KeepsBudget p outside
  pub one : (bytes : List ℕ) → IsSerialized bytes p → (outside : Environment) → IsDetermined p outside

-- a machine of that image that has not run
abbrev pub IsFreshOf : {X : Type 0} {B : X → Type 0} → Image → HostedMachine X B → Type 0
IsFreshOf p m = (m.core.image ≡ p) × IsFresh m

-- what a script lets come from outside, beside so many natives, and the limit of the call
abbrev pub outside_of : Script → (limit natives : ℕ) → Environment
outside_of script limit natives = observing script.refused limit natives script.timed

-- they are, and the text is a script; each run of that image under that script and limit, beside so many natives, goes well within its declared steps, and none that hears the same of natives writes anything else than another
pub record RunsSafely (bytes text : List ℕ) (limit natives : ℕ) : Type 0 where
  pub image : Image
  pub serialized : IsSerialized bytes image
  pub acceptable : IsAcceptable image
  pub script : Script
  pub denotes : denoted text ≡ Ok script
  pub well : RunsWell image (outside_of script limit natives)
  pub within : KeepsBudget image (outside_of script limit natives)
  pub determined : IsDetermined image (outside_of script limit natives)

-- the bytes are no accepted image, and the errors say why
pub record IsRefused (bytes : List ℕ) (out errors : Sent) : Type 0 where
  pub silent : IsSilent out
  pub fault : Fault
  pub refuses : Refuses bytes fault
  pub none : (p : Image) → IsSerialized bytes p → IsAcceptable p → ⊥
  pub status : status_of fault ≡ ImageRefused
  pub reports : ReportsFault fault errors

-- the bytes are an accepted image, the text is no script, and the errors say why
pub record IsNoScript (bytes text : List ℕ) (out errors : Sent) : Type 0 where
  pub silent : IsSilent out
  pub accepts : Accepts bytes
  pub fault : ScriptFault
  pub denotes : denoted text ≡ Err fault
  pub reports : ReportsFault (faults.Script fault) errors

-- there are as many natives as the image names, or more
abbrev pub HasNatives : Image → (natives : ℕ) → Type 0
HasNatives p natives = p.header.natives ≤ natives

-- the bytes are an accepted image that names more natives than there are, the text is a script, and the errors say that the machine does not boot
pub record WantsNatives (bytes text : List ℕ) (natives : ℕ) (out errors : Sent) : Type 0 where
  pub silent : IsSilent out
  pub accepts : Accepts bytes
  pub script : Script
  pub denotes : denoted text ≡ Ok script
  pub few : natives < accepts.image.header.natives
  pub reports : ReportsFault (faults.Boot TooFewNatives) errors

-- why an image is not run beside so many natives: it names more, or memory was wanting
abbrev pub RefusesBoot : Image → (natives : ℕ) → Fault → Type 0
RefusesBoot p natives (faults.Boot TooFewNatives) = natives < p.header.natives
RefusesBoot p natives faults.Memory = HasNatives p natives
RefusesBoot p natives _ = ⊥

-- of an accepted image: memory was wanting before anything went out, for a request that the script refuses or for the machine, or the output failed
pub data RunBreaks (reads : Line → List ℕ) (bytes text : List ℕ) (limit natives : ℕ) (out errors : Sent) : Type 0 where
  script_wants_memory : IsSilent out → Accepts bytes → (fault : ScriptFault) → WantsMemory text fault → ReportsFault faults.Memory errors → RunBreaks reads bytes text limit natives out errors
  machine_wants_memory : IsSilent out → (r : RunsSafely bytes text limit natives) → HasNatives r.image natives → ReportsFault faults.Memory errors → RunBreaks reads bytes text limit natives out errors
  output_fails : (r : RunsSafely bytes text limit natives) → HasNatives r.image natives → Cut reads r.image (outside_of r.script limit natives) out → ReportsFault faults.Write errors → RunBreaks reads bytes text limit natives out errors

-- the run ended before it stopped: for nothing, or at the limit
abbrev pub IsUnfinished : Ending → Type 0
IsUnfinished endings.Waiting = Unit {0}
IsUnfinished endings.Limit = Unit {0}
IsUnfinished _ = ⊥

-- main left, or a dispatch was left and answered with an error
abbrev pub IsBroken : Ending → Type 0
IsBroken (endings.MainLeft code) = Unit {0}
IsBroken (endings.Error answer) = Unit {0}
IsBroken _ = ⊥

-- the transcript of a run that ended so went out, and no other could have
pub record Shown (reads : Line → List ℕ) (bytes text : List ℕ) (limit natives : ℕ) (ending : Ending) (out : Sent) : Type 0 where
  pub runs : RunsSafely bytes text limit natives
  pub enough : HasNatives runs.image natives
  pub transcribed : Transcribed reads runs.image (outside_of runs.script limit natives) ending out
  pub only : IsOnly reads runs.image (outside_of runs.script limit natives) ending out transcribed

-- what each status says of a call of `run` whose image is accepted
abbrev pub AcceptedAnswers : (Line → List ℕ) → List ℕ → List ℕ → (limit natives : ℕ) → Sent → Sent → ExitStatus → Type 0
AcceptedAnswers reads bytes text limit natives out errors Done = Shown reads bytes text limit natives endings.Stopped out × IsSilent errors
AcceptedAnswers reads bytes text limit natives out errors Unfinished = (ending : Ending) × IsUnfinished ending × Shown reads bytes text limit natives ending out × IsSilent errors
AcceptedAnswers reads bytes text limit natives out errors Broken = (ending : Ending) × IsBroken ending × Shown reads bytes text limit natives ending out × IsSilent errors
AcceptedAnswers reads bytes text limit natives out errors ImageRefused = ⊥
AcceptedAnswers reads bytes text limit natives out errors CallRefused = IsNoScript bytes text out errors ⊎ WantsNatives bytes text natives out errors
AcceptedAnswers reads bytes text limit natives out errors Faulty = RunBreaks reads bytes text limit natives out errors

-- what each status says of a call of `run`, beside so many natives, whose lines are written so
abbrev pub RunAnswersBy : (Line → List ℕ) → List ℕ → List ℕ → (limit natives : ℕ) → Sent → Sent → ExitStatus → Type 0
RunAnswersBy reads bytes text limit natives out errors ImageRefused = IsRefused bytes out errors
RunAnswersBy reads bytes text limit natives out errors Faulty = ImageWantsMemory out errors ⊎ RunBreaks reads bytes text limit natives out errors
RunAnswersBy reads bytes text limit natives out errors status = AcceptedAnswers reads bytes text limit natives out errors status

-- they are written with the numbers of classes
abbrev pub RunAnswers : List ℕ → List ℕ → (limit natives : ℕ) → Sent → Sent → ExitStatus → Type 0
RunAnswers = RunAnswersBy line_text

-- what `check` writes of an accepted image
abbrev pub accepted_text : List ℕ
accepted_text = ended (codes "accepted")

-- the bytes are an accepted image, and the output failed
pub record CheckBreaks (bytes : List ℕ) (out errors : Sent) : Type 0 where
  pub accepts : Accepts bytes
  pub failed : out.failed ≡ true
  pub says : Says accepted_text out
  pub reports : ReportsFault faults.Write errors

-- what each status says of a call of `check`
abbrev pub CheckAnswers : List ℕ → Sent → Sent → ExitStatus → Type 0
CheckAnswers bytes out errors Done = Accepts bytes × (out.now ≡ after out.before accepted_text) × IsSilent errors
CheckAnswers bytes out errors ImageRefused = IsRefused bytes out errors
CheckAnswers bytes out errors Faulty = ImageWantsMemory out errors ⊎ CheckBreaks bytes out errors
CheckAnswers bytes out errors _ = ⊥
