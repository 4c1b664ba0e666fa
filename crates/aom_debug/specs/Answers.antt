-- What a call of the debugger promises of its reader, its sinks and its status, from bytes to bytes.
use Rattle.std.specs.Prelude.{◌≡◌, ◌⊎◌, ℕ, List, [], Ok}
use Rattle.aom_image.specs.Image.{Image}
use Rattle.aom_semantics.specs.World.{Environment, boot_state}
use Rattle.aom_script.specs.Script.{Script, WantsMemory, denoted}
use Rattle.aom_script.specs.declared.fault.ScriptFault.{ScriptFault}
use Rattle.aom_commands.specs.declared.status.ExitStatus.{ExitStatus}
use Rattle.aom_commands.specs.declared.status.ExitStatus.TheVariants.{Done, ImageRefused, CallRefused, Fault as Faulty}
use Rattle.aom_commands.specs.declared.faults.Fault.TheVariants as faults
use Rattle.aom_commands.specs.Acceptable.{IsAcceptable, IsSerialized}
use Rattle.aom_commands.specs.Headline.{Accepts, HasNatives, ImageWantsMemory, IsNoScript, IsRefused, IsSilent, Sent, ReportsFault, WantsNatives, outside_of}
use Rattle.aom_debug_symbols.specs.NameLists.{NameLists, unnamed}
use Rattle.aom_debug.specs.SessionLoop.{Broken, Given, Gives, GivesAll, GivesNoEnd, Held, IsUnread, Stopped}
use Rattle.aom_debug.specs.Sessions.{SessionState}

-- the bytes are an accepted image, the text is a script, and there are as many natives as the image names
pub record Debugs (bytes text : List ℕ) (limit natives : ℕ) : Type 0 where
  pub image : Image
  pub serialized : IsSerialized bytes image
  pub acceptable : IsAcceptable image
  pub script : Script
  pub denotes : denoted text ≡ Ok script
  pub enough : HasNatives image natives

-- a session begins at the boot state, with no breakpoint, and no instruction was made; it tells by these names
abbrev pub start_of : NameLists → Image → SessionState
start_of ns p = record { state = boot_state p; spots = []; recent = []; names = ns }

module _ (ns : NameLists) {bytes text : List ℕ} {limit natives : ℕ} (d : Debugs bytes text limit natives) where
  abbrev around : Environment
  around = outside_of d.script limit natives

  -- a session over all that was read, up to the reader's end, went out
  abbrev pub HoldsWhole : Given → Sent → Type 0
  HoldsWhole given out = (said : List ℕ) × GivesAll said given × Held d.image around (start_of ns d.image) said out.before out.now

  -- one over the whole lines that were read: the reader failed, or was not at its end after so many reads
  abbrev pub StopsAt : (reads : ℕ) → Given → Sent → Type 0
  StopsAt reads given out = (said : List ℕ) × GivesNoEnd reads said given × Stopped d.image around (start_of ns d.image) said out.before out.now

  -- a beginning of one: the output failed
  abbrev pub BreaksAt : Given → Sent → Type 0
  BreaksAt given out = (said : List ℕ) × Gives said given × Broken d.image around (start_of ns d.image) said out.before out.now out.failed

-- memory was wanting before anything was read or went out, or the reader or the output failed
pub data DebugBreaks (ns : NameLists) (bytes text : List ℕ) (limit natives reads : ℕ) (given : Given) (out errors : Sent) : Type 0 where
  script_wants_memory : IsUnread given → IsSilent out → Accepts bytes → (fault : ScriptFault) → WantsMemory text fault → ReportsFault faults.Memory errors → DebugBreaks ns bytes text limit natives reads given out errors
  machine_wants_memory : IsUnread given → IsSilent out → Debugs bytes text limit natives → ReportsFault faults.Memory errors → DebugBreaks ns bytes text limit natives reads given out errors
  input_fails : (d : Debugs bytes text limit natives) → StopsAt ns d reads given out → ReportsFault faults.File errors → DebugBreaks ns bytes text limit natives reads given out errors
  output_fails : (d : Debugs bytes text limit natives) → BreaksAt ns d given out → ReportsFault faults.Write errors → DebugBreaks ns bytes text limit natives reads given out errors

-- what each status says of a call of `debug` that tells by these names
abbrev pub DebugAnswersBy : NameLists → List ℕ → List ℕ → (limit natives reads : ℕ) → Given → Sent → Sent → ExitStatus → Type 0
DebugAnswersBy ns bytes text limit natives reads given out errors Done = (d : Debugs bytes text limit natives) × HoldsWhole ns d given out × IsSilent errors
DebugAnswersBy ns bytes text limit natives reads given out errors ImageRefused = IsRefused bytes out errors × IsUnread given
DebugAnswersBy ns bytes text limit natives reads given out errors CallRefused = (IsNoScript bytes text out errors ⊎ WantsNatives bytes text natives out errors) × IsUnread given
DebugAnswersBy ns bytes text limit natives reads given out errors Faulty = (ImageWantsMemory out errors × IsUnread given) ⊎ DebugBreaks ns bytes text limit natives reads given out errors
DebugAnswersBy ns bytes text limit natives reads given out errors _ = ⊥

-- and of one without a text
abbrev pub DebugAnswers : List ℕ → List ℕ → (limit natives reads : ℕ) → Given → Sent → Sent → ExitStatus → Type 0
DebugAnswers = DebugAnswersBy unnamed
