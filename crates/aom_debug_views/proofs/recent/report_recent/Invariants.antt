-- The lines of the places so far are out.
use Rattle.std.proofs.Common.{◌≡◌}
use Rattle.std.specs.Prelude.{option_map, slice_get}
use Rattle.aom_transcript.specs.Sinks.{after}
use Rattle.aom_debug_protocol.specs.declared.answer.Answer.TheVariants.{Ran}
use Rattle.aom_debug_views.specs.Reporting.{answers_by, gathered, listed}
use Rattle.aom_debug_views.proofs.recent.report_recent.Given as goal

abbrev pub invariant-loop-index : goal.invariant-loop-index
invariant-loop-index g l = g.W.Sink.out l.out ≡ after (g.W.Sink.out l.initial.out)
    (answers_by l.names (gathered (λ k. listed (option_map (λ spot. Ran spot) (slice_get l.recent k))) l.index))
