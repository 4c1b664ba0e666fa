-- The methods so far are out.
use Rattle.aom_typing_rules.specs.Typing.{Typing}
use Rattle.aom_static_bounds.specs.Strongest.{IsStrongest}
use Rattle.aom_debug_views.specs.Frames.{frame_text}
use Rattle.aom_debug_views.specs.Reporting.{Reports, gathered}
use Rattle.aom_debug_views.proofs.frames.report_frames.Given as goal

abbrev pub invariant-loop-depth : goal.invariant-loop-depth
invariant-loop-depth g l = (t : Typing) → IsStrongest l.accepted t → Reports (record { image = l.accepted; parts = l.parts })
    (λ s. gathered (frame_text l.names t s) l.depth) (g.W.Sink.out l.initial.out) (g.W.Sink.out l.out)
