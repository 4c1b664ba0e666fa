-- The lines of the words so far are out.
use Rattle.aom_image.specs.Image.{Image}
use Rattle.aom_debug_views.specs.Reporting.{Reports, answers_text}
use Rattle.aom_debug_paths.specs.Paths.{word_lines}
use Rattle.aom_debug_paths.proofs.words.report_count.Given as goal

abbrev pub invariant-loop-word : goal.invariant-loop-word
invariant-loop-word g l = (p : Image) →
    Reports (record { image = p; parts = l.parts }) (λ s. answers_text (word_lines s.cells l.cell l.word)) (g.W.Sink.out l.initial.out) (g.W.Sink.out l.out)
