-- The registers so far are out.
use Rattle.std.proofs.Common.{ℕ}
use Rattle.aom_image.specs.Image.{Image}
use Rattle.aom_abstract_state.specs.Kinds.{register}
use Rattle.aom_semantics.specs.Owned.{over}
use Rattle.aom_debug_views.specs.Frames.{ShowsFrame, registers_in}
use Rattle.aom_debug_views.specs.Reporting.{Reports, answers_by}
use Rattle.aom_debug_views.proofs.frames.report_contents.Given as goal

abbrev pub invariant-loop-register : goal.invariant-loop-register
invariant-loop-register g l = (p : Image) (depth : ℕ) → ShowsFrame (record { image = p; parts = l.parts }) l.shape l.frame depth → Reports
    (record { image = p; parts = l.parts }) (λ s. answers_by l.names (registers_in (λ i. register l.shape i) s.cells depth (over s.tasks depth) l.register))
    (g.W.Sink.out l.initial.out) (g.W.Sink.out l.out)
