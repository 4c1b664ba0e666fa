-- The lines of the classes so far are out.
use Rattle.aom_image.specs.Image.{Image}
use Rattle.aom_debug_views.specs.CellViews.{first_classes}
use Rattle.aom_debug_views.specs.Reporting.{Reports, answers_by}
use Rattle.aom_debug_views.proofs.cells.report_classes.Given as goal

abbrev pub invariant-loop-class : goal.invariant-loop-class
invariant-loop-class g l = (p : Image) →
    Reports (record { image = p; parts = l.parts }) (λ s. answers_by l.names (first_classes s.cells l.class)) (g.W.Sink.out l.initial.out) (g.W.Sink.out l.out)
