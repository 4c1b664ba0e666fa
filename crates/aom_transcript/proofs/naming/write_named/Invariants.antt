-- The lines so far are out.
use Rattle.std.proofs.Common.{[], take}
use Rattle.aom_transcript.specs.Naming.{class_word, borrowed, named_text}
use Rattle.aom_transcript.proofs.Sending.{Paged}
use Rattle.aom_transcript.proofs.naming.write_named.Given as goal

abbrev pub invariant-loop-line : goal.invariant-loop-line
invariant-loop-line g l = Paged (named_text (class_word (borrowed l.names))) (g.W.Sink.out l.initial.out) (g.W.Sink.out l.out) [] (take l.line-index l.lines)
