-- The lines of what waits so far are out.
use Rattle.aom_image.specs.Image.{Image}
use Rattle.aom_debug_views.specs.Reporting.{Reports, answers_text, gathered}
use Rattle.aom_debug_paths.proofs.Queues.{entry_lines}
use Rattle.aom_debug_paths.proofs.queue.report_waiting.Given as goal

abbrev pub invariant-loop-ahead : goal.invariant-loop-ahead
invariant-loop-ahead g l = (p : Image) → Reports (record { image = p; parts = l.parts })
    (λ s. answers_text (gathered (entry_lines l.parts l.server) l.ahead)) (g.W.Sink.out l.initial.out) (g.W.Sink.out l.out)
