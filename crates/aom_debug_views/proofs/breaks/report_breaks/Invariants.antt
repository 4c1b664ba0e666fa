-- The lines of the breakpoints so far are out.
use Rattle.std.proofs.Common.{◌≡◌}
use Rattle.std.specs.Prelude.{option_map, slice_get}
use Rattle.aom_transcript.specs.Sinks.{after}
use Rattle.aom_debug_protocol.specs.declared.answer.Answer.TheVariants.{Break}
use Rattle.aom_debug_views.specs.Reporting.{answers_by, gathered, listed}
use Rattle.aom_debug_views.proofs.breaks.report_breaks.Given as goal

abbrev pub invariant-loop-index : goal.invariant-loop-index
invariant-loop-index g l = g.W.Sink.out l.out ≡ after (g.W.Sink.out l.initial.out)
    (answers_by l.names (gathered (λ k. listed (option_map (λ b. Break b) (slice_get l.breakpoints k))) l.index))
