-- What hangs from the registers so far is out.
use Rattle.std.proofs.Common.{ℕ}
use Rattle.aom_image.specs.Image.{Image}
use Rattle.aom_debug_views.specs.Owners.{ShowsAll, frame_registers, owners_text}
use Rattle.aom_debug_views.specs.Reporting.{Reports}
use Rattle.aom_debug_views.proofs.owners.report_frame.Given as goal

abbrev pub invariant-loop-register : goal.invariant-loop-register
invariant-loop-register g l =
    (p : Image) (depth : ℕ) → ShowsAll (record { image = p; parts = l.parts }) l.shape l.frame.registers depth → Reports (record { image = p; parts = l.parts })
    (λ s. owners_text l.names (frame_registers s.cells depth l.frames l.register)) (g.W.Sink.out l.initial.out) (g.W.Sink.out l.out)
