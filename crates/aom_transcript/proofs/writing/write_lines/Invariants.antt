use Rattle.std.proofs.Common.{take}
use Rattle.aom_transcript.specs.Text.{line_text}
use Rattle.aom_transcript.proofs.Sending.{Paged}
use Rattle.aom_transcript.proofs.writing.write_lines.Given as goal

abbrev pub invariant-loop-line : goal.invariant-loop-line
invariant-loop-line g l = Paged line_text (g.W.Sink.out l.initial.out) (g.W.Sink.out l.out) l.page (take l.line-index l.lines)
