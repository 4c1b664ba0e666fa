-- What `compile` promises of its sinks and its status.
use Rattle.std.specs.Prelude.{List, ℕ, ◌≡◌, Result, Ok, Err, true}
use Rattle.aom_commands.specs.Headline.{Sent, Says, IsSilent}
use Rattle.aom_source_commands.specs.Compiling.{IsOutput}
use Rattle.aom_source_commands.specs.Telling.{TellsPlace}
use Rattle.aom_source_commands.specs.declared.compiling.Emit.{Emit}
use Rattle.aom_commands.specs.declared.status.ExitStatus.{ExitStatus}
use Rattle.aom_commands.specs.declared.status.ExitStatus.TheVariants as statuses
use Rattle.aom_commands.specs.declared.faults.Fault.{Fault}
use Rattle.aom_commands.specs.declared.faults.Fault.TheVariants as faults

-- a text went out whole, or the output has failed
abbrev pub SendsText : List ℕ → Sent → Result ExitStatus Fault → Type 0
SendsText text out (Ok statuses.Done) = Says text out
SendsText text out (Err faults.Write) = out.failed ≡ true
SendsText text out answer = ⊥

-- what was asked for went out; or what is told of the source begins with a place of it, and nothing went out; or the output or the memory has failed
abbrev pub Compiles : Emit → (name source : List ℕ) → Sent → Sent → Result ExitStatus Fault → Type 0
Compiles emit name source out errors (Ok statuses.Done) = ((text : List ℕ) × IsOutput emit source text × Says text out) × IsSilent errors
Compiles emit name source out errors (Ok statuses.ImageRefused) = IsSilent out × ((told : List ℕ) × TellsPlace name source told × Says told errors)
Compiles emit name source out errors (Err faults.Write) = (out.failed ≡ true) × IsSilent errors
Compiles emit name source out errors (Err faults.Memory) = IsSilent out × IsSilent errors
Compiles emit name source out errors answer = ⊥
