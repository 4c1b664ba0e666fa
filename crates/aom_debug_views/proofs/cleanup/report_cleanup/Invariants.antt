-- The lines of the items so far are out.
use Rattle.aom_image.specs.Image.{Image}
use Rattle.aom_debug_views.specs.CellViews.{lowest_items}
use Rattle.aom_debug_views.specs.Reporting.{Reports, answers_by}
use Rattle.aom_debug_views.proofs.cleanup.report_cleanup.Given as goal

abbrev pub invariant-loop-height : goal.invariant-loop-height
invariant-loop-height g l = (p : Image) →
    Reports (record { image = p; parts = l.parts }) (λ s. answers_by l.names (lowest_items s l.height)) (g.W.Sink.out l.initial.out) (g.W.Sink.out l.out)
