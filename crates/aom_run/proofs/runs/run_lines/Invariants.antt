use Rattle.std.proofs.Common.{◌≡◌, ◌≢◌, []}
use Rattle.aom_run.specs.Calls.{natives_of}
use Rattle.aom_natives.specs.Slots.{AllAgree}
use Rattle.aom_transcript.specs.Naming.{named_by}
use Rattle.aom_run.specs.Turns.{observing}
use Rattle.aom_machine.specs.Steps.{progress}
use Rattle.aom_machine_state.specs.declared.progress.Progress.TheVariants.{Running}
use Rattle.aom_run.proofs.Running.{SoFar, left}
use Rattle.aom_run.proofs.runs.run_lines.Given as goal

abbrev pub invariant-loop-progress : goal.invariant-loop-progress
invariant-loop-progress g l = record {
  so_far : SoFar (named_by l.fn.names) l.fn.machine.core.image
      (observing l.fn.lines.refused l.fn.limit (natives_of l.fn.machine) l.fn.events) (g.W.Sink.out l.fn.out) (g.W.Sink.out l.out) l.lines.lines l.machine;
  agree : AllAgree (λ x. x.ids) (λ x. (goal.Native-dyn g (x.native.vtable, x.native.value)).owed x.native.value) l.machine.natives.slots.items;
  image : l.machine.core.image ≡ l.fn.machine.core.image;
  natives : natives_of l.machine ≡ natives_of l.fn.machine;
  lines : l.lines ≡ record l.fn.lines { lines = [] };
  as_far : l.progress ≡ progress l.machine.core;
  rests : l.progress ≢ Running;
}

abbrev pub decreases-loop-progress : goal.decreases-loop-progress
decreases-loop-progress g l = left l.fn.events l.fn.limit l.machine
